use Rattle.std.proofs.Common.{◌≡◌, ◌+◌, ◌-◌, ◌*◌, ◌≤◌, length, get_or, take, drop, ap, ◌∙◌, ap₂, arith}
use borrow.Rule.Slice.PartMut.{put_mid}
use Rattle.std.proofs.lemmas.List.{length-drop, length-take-le}
use Rattle.words.specs.Bits.{bits_of}
use Rattle.memory_laws.specs.Payload.{bits_of_byte}
use Rattle.memory_laws.proofs.Spelling.{bits_byte, carrying_more}
use Rattle.memories.proofs.bits.spread.Goals as goal

pub loop-i-preserved : goal.loop-i-preserved
loop-i-preserved c =
    let payload = c.args.payload.now in
    let i = c.loop-i.i in
    let fits : 8 * length payload ≤ length c.fill.new.self = omega (arith, c.fill.ensures.len, c.requires) in
    let span : 8 * i + 8 - 8 * i ≡ 8 = omega arith in
    let room : 8 ≤ length (drop (8 * i) c.loop-i.message) = omega (arith, length-drop (8 * i) c.loop-i.message) in
    let long = ap (λ n. length (take n (drop (8 * i) c.loop-i.message))) span ∙ length-take-le 8 (drop (8 * i) c.loop-i.message) room in
    let bits = c.write_bits.ensures ∙ ap₂ bits_of long c.from.ensures ∙ bits_byte (get_or payload i 0) in
    ap₂ (λ n ys. put_mid (8 * i) n c.loop-i.message ys) span bits
    ∙ ap (λ xs. put_mid (8 * i) 8 xs (bits_of_byte (get_or payload i 0))) c.loop-i.invariant
    ∙ carrying_more (length c.fill.new.self) payload i c.loop-i-test.true fits
