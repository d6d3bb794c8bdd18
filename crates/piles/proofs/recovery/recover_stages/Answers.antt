use Rattle.std.proofs.Common.{◌≡◌, ℕ, ◌+◌, ◌-◌, ◌*◌, map, length, take, drop, sym, ap, ◌∙◌, subst, arith}
use borrow.Rule.Slice.PartMut.{put_mid}
use Rattle.std.proofs.ByRecursion.{All-get_or}
use Rattle.std.proofs.lemmas.List.{length-drop, length-take-le}
use Rattle.words.specs.Soundness.{Sound}
use Rattle.pile_laws.specs.Build.{total_bits}
use Rattle.pile_laws.specs.Flat.{words_in}
use Rattle.pile_laws.proofs.Recovery.{MessagesOf, encoded_here, recovered_more}
use Rattle.pile_laws.proofs.Scans.{bits_more, long_here, models_more}
use Rattle.piles.proofs.recovery.recover_stages.Goals as goal

pub recover_stage-requires : goal.recover_stage-requires
recover_stage-requires g c =
    let model = g.A.Code.model in
    let codes = c.args.codes.now in
    let k = c.loop-k.k in
    let n = c.args.columns in
    let a = c.index-codes-k.result in
    let at = c.loop-k.at in
    let count = c.bits_of-count.result in
    let bits = c.loop-k.bits in
    let words = c.args.words.now in
    let is = c.index-codes-k.is in
    let lk = c.loop-k-test.true in
    let sound = subst (Sound g.A.Code.refusal) (sym is) (All-get_or (Sound g.A.Code.refusal) codes k a lk c.requires.codes.0) in
    let width : n ≡ n * k + n - n * k = omega arith in
    let of = encoded_here model codes n k a is lk words (c.requires.words.1 k lk) in
    let more = ap total_bits (models_more model codes k a is lk) in
    let span : at + count - at ≡ count = omega arith in
    let long = ap (λ (i : ℕ). length (take i (drop at bits))) span ∙ length-take-le count (drop at bits) (omega (arith, more, length-drop at bits, c.loop-k.invariant.1, c.loop-k.auto.bits, c.requires.room, c.bits_of-count.ensures.value)) ∙ c.bits_of-count.ensures.value in
    (sound, ((of.0, of.1, of.2 ∙ ap (λ (i : ℕ). take i (drop (n * k) words)) width), long))

pub loop-k-preserved : goal.loop-k-preserved
loop-k-preserved g c =
    let model = g.A.Code.model in
    let codes = c.args.codes.now in
    let k = c.loop-k.k in
    let n = c.args.columns in
    let a = c.index-codes-k.result in
    let at = c.loop-k.at in
    let count = c.bits_of-count.result in
    let bits = c.loop-k.bits in
    let words = c.args.words.now in
    let ys = c.recover_stage.new.bits in
    let is = c.index-codes-k.is in
    let lk = c.loop-k-test.true in
    let width : n * k + n - n * k ≡ n = omega arith in
    let span : at + count - at ≡ count = omega arith in
    let more = ap total_bits (models_more model codes k a is lk) in
    let part : length (take (at + count - at) (drop at bits)) ≡ count = ap (λ (i : ℕ). length (take i (drop at bits))) span ∙ length-take-le count (drop at bits) (omega (arith, more, length-drop at bits, c.loop-k.invariant.1, c.loop-k.auto.bits, c.requires.room, c.bits_of-count.ensures.value)) in
    let found = c.in_ok-recover_stage.ensures in
    let same : (model a).codeword found.0 ≡ take n (drop (n * k) words) = found.2 ∙ ap (λ (i : ℕ). take i (drop (n * k) words)) width in
    let next = recovered_more model codes n k a is lk words at count bits ys (omega (arith, c.loop-k.invariant.1, c.loop-k.auto.bits, c.requires.room)) (c.recover_stage.auto.bits ∙ part) (found.0, found.1, same, found.3) c.loop-k.invariant.0 in
    (subst (λ (i : ℕ). MessagesOf (map model (take (k + 1) codes)) (words_in n (k + 1) words) (take (at + count) (put_mid at i bits ys))) (sym span) next, bits_more model codes k a at _ count is lk c.bits_of-count.ensures.value c.loop-k.invariant.1, (long_here model codes n k a is lk c.loop-k.invariant.2).1)
