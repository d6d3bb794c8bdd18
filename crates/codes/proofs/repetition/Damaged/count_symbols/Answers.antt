use Rattle.std.proofs.Common.{◌≡◌, ℕ, ◌+◌, ◌<◌, eqb, length, get_or, set, ap, ◌∙◌, arith}
use Rattle.std.proofs.lemmas.List.{length-set, get_or-replicate}
use Rattle.codes.specs.Repeats.{count_more, counted_here, not_counted, raised_at, at_most_one}
use Rattle.codes.proofs.repetition.Damaged.count_symbols.Goals as goal
use Rattle.codes.proofs.repetition.Damaged.count_symbols.Goals.{then-self-i-eq0, else-self-i-eq0}

pub loop-i-init : goal.loop-i-init
loop-i-init c =
    let zero-at : (x : ℕ) → x < 256 → get_or c.args.counts.now x 0 ≡ 0 = λ x l. ap (λ xs. get_or xs x 0) c.requires ∙ get_or-replicate 256 x 0 0 l in
    (ap length c.requires, λ x l. omega (arith, zero-at x l), λ x l. omega (arith, zero-at x l))

pub loop-i-preserved : goal.loop-i-preserved
loop-i-preserved c =
    let word = c.args.self.now.word.now in
    let marks = c.args.self.now.marks.now in
    let counts = c.loop-i.counts in
    let i = c.loop-i.i in
    let s = get_or word i 0 in
    let lm : i < length marks = omega arith in
    elim c.if-self-i-eq0.branch [
      | then-self-i-eq0 w ↦
          let small : s < length counts = omega arith in
          let is : c.if-self-i-eq0.counts ≡ set counts s (get_or counts s 0 + 1) = w.counts-is ∙ ap (λ k. set counts k (get_or counts k 0 + 1)) w.from.ensures in
          let now-at : (x : ℕ) → get_or c.if-self-i-eq0.counts x 0 ≡ get_or (set counts s (get_or counts s 0 + 1)) x 0 = λ x. ap (λ xs. get_or xs x 0) is in (
            ap length is ∙ length-set counts s (get_or counts s 0 + 1) ∙ c.loop-i.invariant.0,
            (λ x l. omega (arith, now-at x, raised_at counts s x small, count_more x word marks i c.loop-i-test.true lm, counted_here (get_or marks i 0) s x w.if-self-i-eq0.true, c.loop-i.invariant.1 x l)),
            (λ x l. omega (arith, now-at x, raised_at counts s x small, at_most_one (eqb s x), c.loop-i.invariant.2 x l)),
          )
      | else-self-i-eq0 w ↦
          let same : (x : ℕ) → get_or c.if-self-i-eq0.counts x 0 ≡ get_or counts x 0 = λ x. ap (λ xs. get_or xs x 0) w.counts-is in (
            ap length w.counts-is ∙ c.loop-i.invariant.0,
            (λ x l. omega (arith, same x, count_more x word marks i c.loop-i-test.true lm, not_counted (get_or marks i 0) s x w.if-self-i-eq0.false, c.loop-i.invariant.1 x l)),
            (λ x l. omega (arith, same x, c.loop-i.invariant.2 x l)),
          )
    ]
