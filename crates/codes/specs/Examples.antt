-- The repetition code on a word of four places. Assumes nothing.
use Rattle.std.specs.Prelude.{[], ◌∷◌, Ok, Err}
use Rattle.words.specs.declared.fault.Kind.TheVariants.{NoCodeword}
use Rattle.words.specs.declared.fault.Layer.TheVariants.{Code}
use Rattle.words.specs.Faults.{fault}
use Rattle.codes.specs.Kinds.{repetition_code}
use Rattle.codes.specs.Promises.{Corrected}

-- 1 1 0 and a blank give 1 1 1 1 with harm 3; 1 1 0 0 lies too far from both codewords
abbrev pub RepetitionExample : Type 0
RepetitionExample =
    Corrected (repetition_code 1 4) (1 ∷ 1 ∷ 0 ∷ 0 ∷ []) (0 ∷ 0 ∷ 0 ∷ 1 ∷ []) (1 ∷ 1 ∷ 1 ∷ 1 ∷ []) (Ok 3)
    × Corrected (repetition_code 1 4) (1 ∷ 1 ∷ 0 ∷ 0 ∷ []) (0 ∷ 0 ∷ 0 ∷ 0 ∷ []) (1 ∷ 1 ∷ 0 ∷ 0 ∷ []) (Err (fault NoCodeword Code 0))
