use Rattle.std.proofs.Common.{◌≡◌, ℕ, ◌+◌, ◌-◌, ◌*◌, ◌++◌, map, length, take, drop, ap, ◌∙◌, arith}
use borrow.Rule.Slice.PartMut.{put_mid}
use Rattle.std.proofs.lemmas.List.{length-drop, length-take-le}
use Rattle.pile_laws.specs.Build.{stage_words, symbols}
use Rattle.pile_laws.specs.Flat.{words_in}
use Rattle.pile_laws.proofs.Flat.{part_in}
use Rattle.pile_laws.proofs.Scans.{bits_more, long_here, words_more}
use Rattle.piles.proofs.messages.encode_stages.Goals as goal

pub loop-k-preserved : goal.loop-k-preserved
loop-k-preserved g c =
    let model = g.A.Code.model in
    let codes = c.args.codes.now in
    let k = c.loop-k.k in
    let n = c.args.columns in
    let a = c.index-codes-k.result in
    let at = c.loop-k.at in
    let bits = c.bits_of-bits.result in
    let message = c.args.message.now in
    let row = c.loop-k.words in
    let ys = c.encode_stage.new.word in
    let lk = c.loop-k-test.true in
    let is = c.index-codes-k.is in
    let span : at + bits - at ≡ bits = omega arith in
    let width : n * k + n - n * k ≡ n = omega arith in
    let here = long_here model codes n k a is lk c.loop-k.invariant.2 in
    let room = part_in n (length codes) k lk in
    let part : length (take (n * k + n - n * k) (drop (n * k) row)) ≡ n = ap (λ (i : ℕ). length (take i (drop (n * k) row))) width ∙ length-take-le n (drop (n * k) row) (omega (arith, length-drop (n * k) row, room, c.requires.room, c.loop-k.auto.words)) in
    let wide : length ys ≡ n = c.encode_stage.auto.word ∙ part in
    let m = model a in
    let written : ys ≡ m.codeword (symbols m.width m.message_len (take bits (drop at message))) = c.in_ok-encode_stage.ensures ∙ ap (λ (i : ℕ). m.codeword (symbols m.width m.message_len (take i (drop at message)))) span in (
      ap (λ (i : ℕ). words_in n (k + 1) (put_mid (n * k) i row ys) ++ stage_words (map model (drop (k + 1) codes)) (drop (at + bits) message)) width
          ∙ words_more model codes n k a is lk message row ys at bits _ c.bits_of-bits.ensures.value (omega (arith, room, c.requires.room, c.loop-k.auto.words)) wide written c.loop-k.invariant.0,
      bits_more model codes k a at _ bits is lk c.bits_of-bits.ensures.value c.loop-k.invariant.1,
      here.1,
    )
