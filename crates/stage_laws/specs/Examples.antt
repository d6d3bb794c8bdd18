-- A stage of inner distance 8 over the repetition code of two columns. Assumes nothing.
use Rattle.std.specs.Prelude.{◌≡◌, ℕ, List, [], ◌∷◌, Some, None, Ok, Option}
use Rattle.chains.specs.declared.chain.Estimate.{Estimate}
use Rattle.codes.specs.Kinds.{repetition_code}
use Rattle.stage_laws.specs.Rule.{score}
use Rattle.stage_laws.specs.Promises.{Chose}

-- the labels 1 and 0, with their harms
abbrev pub one_and_zero : ℕ → ℕ → List (Option Estimate)
one_and_zero a b = Some (record { label = 1; harm = a }) ∷ Some (record { label = 0; harm = b }) ∷ []

-- with the harms 0 and 6 the choice is 1 1, with score 10; with 6 and 6 both codewords score 16, and there is none
abbrev pub StageExample : Type 0
StageExample =
    Chose (repetition_code 1 2) 8 (one_and_zero 0 6) (0 ∷ 0 ∷ []) (1 ∷ 1 ∷ []) (Ok (Some 10))
    × Chose (repetition_code 1 2) 8 (one_and_zero 6 6) (0 ∷ 0 ∷ []) (0 ∷ 0 ∷ []) (Ok None)
    × (score 8 (one_and_zero 6 6) (0 ∷ 0 ∷ []) ≡ 16)
    × (score 8 (one_and_zero 6 6) (1 ∷ 1 ∷ []) ≡ 16)
