-- The worked example of the stage rule. Assumes nothing.
use Rattle.std.proofs.Common.{◌≡◌, ℕ, zero, suc, List, [], ◌∷◌, length, Some, None, Ok, Err, Option, Result, refl, ap, ◌∙◌, subst₂, arith, lit<}
use Rattle.std.specs.Result as results
use Rattle.std.proofs.lemmas.Option.{MatchOption-at_none}
use Rattle.words.specs.declared.fault.Fault.{Fault}
use Rattle.words.specs.Buffers.{either}
use Rattle.codes.specs.Kinds.{repetition_code}
use Rattle.stage_laws.specs.Examples.{one_and_zero, StageExample}
use Rattle.stage_laws.specs.Promises.{length_refusal, choose_refusal, Choice, Chose}
use Rattle.stage_laws.specs.Rule.{score, Chosen}

-- both codewords score 16
too_far : (u : List ℕ) → Chosen (repetition_code 1 2) 8 (one_and_zero 6 6) u → ⊥
too_far [] chosen = omega (arith, chosen.0.0)
too_far (zero ∷ u) chosen = omega (arith, chosen.1)
too_far (suc zero ∷ u) chosen = omega (arith, chosen.1)
too_far (suc (suc x) ∷ u) chosen = omega (arith, chosen.0.1.0)

pub stage_example : StageExample
stage_example = ((1 ∷ [], ((refl, (lit< tt, tt)), lit< tt), refl, refl), (refl, too_far), refl, refl)

-- the message 1 alone is chosen
only_one : (u : List ℕ) → Chosen (repetition_code 1 2) 8 (one_and_zero 0 6) u → u ≡ 1 ∷ []
only_one [] chosen = absurd (omega (arith, chosen.0.0))
only_one (zero ∷ u) chosen = absurd (omega (arith, chosen.1))
only_one (suc zero ∷ []) chosen = refl
only_one (suc zero ∷ y ∷ u) chosen = absurd (omega (arith, chosen.0.0))
only_one (suc (suc x) ∷ u) chosen = absurd (omega (arith, chosen.0.1.0))

-- so the call has one answer
pub example_answer : (m n : ℕ) → m ≡ 1 → n ≡ 2 → (word word' : List ℕ) → length word ≡ 2 → (r : Result (Option ℕ) Fault) → Chose (repetition_code m n) 8 (one_and_zero 0 6) word word' r → (r ≡ Ok (Some 10)) × (word' ≡ 1 ∷ 1 ∷ [])
example_answer m n im in' word word' long r told =
    by r (MatchOption-at_none _ _ passes (subst₂ (λ (x y : ℕ). Chose (repetition_code x y) 8 (one_and_zero 0 6) word word' r) im in' told))
  where
    passes : choose_refusal (repetition_code 1 2) 8 (one_and_zero 0 6) word ≡ None
    passes = ap (λ k. either (length_refusal 2 k) None) long

    by : (q : Result (Option ℕ) Fault) → results.MatchResult q (Choice (repetition_code 1 2) 8 (one_and_zero 0 6) word word') (λ _. ⊥) → (q ≡ Ok (Some 10)) × (word' ≡ 1 ∷ 1 ∷ [])
    by (Ok (Some h)) w =
        let is = only_one w.0 w.1 in
        (ap (λ x. Ok (Some x)) (w.3 ∙ ap (λ u. score 8 (one_and_zero 0 6) ((repetition_code 1 2).codeword u)) is), w.2 ∙ ap (repetition_code 1 2).codeword is)
    by (Ok None) w = absurd (w.1 (1 ∷ []) ((refl, (lit< tt, tt)), lit< tt))
    by (Err f) w = absurd w
