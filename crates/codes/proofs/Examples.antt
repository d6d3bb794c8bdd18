-- The repetition code on a word of four places. Assumes nothing.
use Rattle.std.proofs.Common.{ℕ, zero, suc, List, [], ◌∷◌, refl, arith, lit<}
use Rattle.codes.specs.Examples.{RepetitionExample}
use Rattle.codes.specs.Kinds.{repetition_code}
use Rattle.codes.specs.Model.{Near}

-- both codewords lie at harm 4
too_far : (u : List ℕ) → Near (repetition_code 1 4) (1 ∷ 1 ∷ 0 ∷ 0 ∷ []) (0 ∷ 0 ∷ 0 ∷ 0 ∷ []) u → ⊥
too_far [] near = omega (arith, near.0.0)
too_far (zero ∷ u) near = omega (arith, near.1)
too_far (suc zero ∷ u) near = omega (arith, near.1)
too_far (suc (suc x) ∷ u) near = omega (arith, near.0.1.0)

pub repetition_example : RepetitionExample
repetition_example = ((1 ∷ [], ((refl, (lit< tt, tt)), lit< tt), refl, refl), (0, refl, refl, refl, too_far))
