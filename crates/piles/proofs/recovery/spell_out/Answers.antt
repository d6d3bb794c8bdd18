use Rattle.std.proofs.Common.{◌≡◌, ℕ, ◌+◌, ◌-◌, ◌*◌, length, get_or, take, drop, ap, ◌∙◌, ap₂, arith}
use borrow.Rule.Slice.PartMut.{put_mid}
use Rattle.std.proofs.lemmas.List.{length-drop, length-take-le}
use Rattle.words.specs.Bits.{bits_of}
use Rattle.pile_laws.proofs.Messages.{symbol_room}
use Rattle.pile_laws.proofs.Recovery.{spelled_more}
use Rattle.piles.proofs.recovery.spell_out.Goals as goal

pub loop-i-preserved : goal.loop-i-preserved
loop-i-preserved c =
    let w = c.args.width in
    let i = c.loop-i.i in
    let bits = c.loop-i.bits in
    let symbols = c.args.symbols.now in
    let room = symbol_room w (length symbols) i c.loop-i-test.true in
    let ys = c.write_bits.new.bits in
    let span : i * w + w - i * w ≡ w = omega arith in
    let part : length (take (i * w + w - i * w) (drop (i * w) bits)) ≡ w = ap (λ (n : ℕ). length (take n (drop (i * w) bits))) span ∙ length-take-le w (drop (i * w) bits) (omega (arith, length-drop (i * w) bits, room, c.requires.1, c.loop-i.auto.bits)) in
    let written : ys ≡ bits_of w (get_or symbols i 0) = c.write_bits.ensures ∙ ap₂ bits_of part c.from.ensures in
    ap (λ (n : ℕ). take ((i + 1) * w) (put_mid (i * w) n bits ys)) span
    ∙ spelled_more w i symbols bits ys c.loop-i-test.true (omega (arith, room, c.requires.1, c.loop-i.auto.bits)) (c.write_bits.auto.bits ∙ part) written c.loop-i.invariant
