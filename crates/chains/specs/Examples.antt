-- Worked examples of the Reed-Muller chain of eight cells. Assumes nothing.
use Rattle.std.specs.Prelude.{◌≡◌, [], ◌∷◌, Some, None}
use Rattle.chains.specs.declared.chain.Estimate.{Estimate}
use Rattle.chains.specs.Promises.{Estimates}
use Rattle.chains.specs.ReedMuller.{muller_word, muller_chain}

abbrev pub near_estimate : Estimate
near_estimate = record { label = 1; harm = 6 }

-- five ones lie near the word of all ones, and four lie in the middle
pub record MullerExamples : Type 0 where
  pub word : muller_word 3 (0 ∷ 4 ∷ 0 ∷ 0 ∷ []) ≡ 0 ∷ 0 ∷ 0 ∷ 1 ∷ 0 ∷ 0 ∷ 0 ∷ 1 ∷ []
  pub near : Estimates (muller_chain 3) 4 (0 ∷ 0 ∷ 0 ∷ []) (1 ∷ 1 ∷ 1 ∷ 1 ∷ 1 ∷ 0 ∷ 0 ∷ 0 ∷ []) (0 ∷ 0 ∷ 0 ∷ 0 ∷ 0 ∷ 0 ∷ 0 ∷ 0 ∷ []) (Some near_estimate)
  pub absent : Estimates (muller_chain 3) 4 (0 ∷ 0 ∷ 0 ∷ []) (1 ∷ 1 ∷ 1 ∷ 1 ∷ 0 ∷ 0 ∷ 0 ∷ 0 ∷ []) (0 ∷ 0 ∷ 0 ∷ 0 ∷ 0 ∷ 0 ∷ 0 ∷ 0 ∷ []) None
