use Rattle.std.proofs.Common.{◌≡◌, ℕ, ◌^◌, ◌<◌, List, length, get_or, replicate, sym, refl, ap, ◌∙◌, subst, arith, pow_mono}
use Rattle.std.proofs.ByRecursion.{All-weaker}
use Rattle.std.proofs.lemmas.List.Elements.{All-from_recursion}
use Rattle.words.specs.Harm.{harm}
use Rattle.words.proofs.Rises.{raised}
use Rattle.codes.specs.declared.checks.Parameters.{Parameters}
use Rattle.codes.specs.Kinds.{repetition_code}
use Rattle.codes.specs.Repeats.{more_is_nearer, first_symbol}
use Rattle.codes.proofs.Working.{correct_passes, damage_fits, uncorrected}
use Rattle.codes.proofs.repetition.RepetitionCode.correct.Goals as goal

pub invariant_of-damaged : goal.invariant_of-damaged
invariant_of-damaged c =
    let size = c.args.self.now.size in
    let model = repetition_code size.width size.len in
    let word = c.args.word.now in
    let marks = c.args.marks.now in
    let none = correct_passes model c.parameters-parameters.ensures word marks c.in_ok-check_correct.ensures in
    let fit = damage_fits model word marks none in
    record {
      short = omega (arith, fit.0.0, size.short);
      paired = fit.1.0 ∙ sym fit.0.0;
      symbols_small = All-from_recursion (λ w. w < 256) word (All-weaker (λ x. x < 2 ^ size.width) (λ w. w < 256) (λ x l. omega (arith, pow_mono {i = size.width} {j = 8} size.narrow)) word fit.0.1);
      marks_small = All-from_recursion (λ m. m < 2) marks fit.1.1;
    }

pub returns-in_err-check_near-clause-sound : goal.returns-in_err-check_near-clause-sound
returns-in_err-check_near-clause-sound c =
    let size = c.args.self.now.size in
    let m = size.width in
    let n = size.len in
    let model = repetition_code m n in
    let word = c.args.word.now in
    let marks = c.args.marks.now in
    let none = correct_passes model c.parameters-parameters.ensures word marks c.in_ok-check_correct.ensures in
    let fit = damage_fits model word marks none in
    let p = c.majority-symbol.result in
    let f = c.in_ok-found.ensures in
    let found : c.in_ok-found.found ≡ harm word marks (replicate (length word) p) = cc in
    let far : (u : List ℕ) → (length u ≡ 1) → get_or u 0 0 < 2 ^ m → harm word marks (replicate n (get_or u 0 0)) < n → ⊥ = λ u one small near.
    let s = get_or u 0 0 in
    let fewer = c.majority-symbol.ensures.1 s (subst (λ (k : ℕ). s < k) (sym (ap (λ (p : Parameters). p.symbols) c.parameters-parameters.ensures)) small) in
    let nearer = more_is_nearer p s word marks (fit.1.0 ∙ sym fit.0.0) fewer in
    omega (arith, nearer, found, ap (λ k. harm word marks (replicate k s)) fit.0.0, near, c.in_err-check_near.ensures.0) in
    λ _. rw (raised _ c.from_residual-in_err-check_near.ensures.1, c.in_err-check_near.ensures.1) (uncorrected model word marks 0 none refl (λ u near. far u near.0.0 (first_symbol m u near.0.0 near.0.1) near.1))
