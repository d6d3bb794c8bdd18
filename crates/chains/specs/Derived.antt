-- What follows from a chain's law, for every chain. Assumes nothing.
use Rattle.std.specs.Prelude.{◌≡◌, ℕ, ◌+◌, ◌*◌, ◌≤◌, List, length, None, Ok, Option, Result, ◌≢◌}
use Rattle.words.specs.declared.fault.Fault.{Fault}
use Rattle.words.specs.Harm.{harm}
use Rattle.chains.specs.declared.chain.Estimate.{Estimate}
use Rattle.chains.specs.Model.{ChainModel, Stage, Row, before}
use Rattle.chains.specs.Promises.{Estimates}
use Rattle.chains.specs.Refusals.{estimate_refusal}

-- two rows that agree before stage i have harms against any one reading that add up to twice the stage's distance
abbrev pub TwoRows : ChainModel → Type 0
TwoRows h =
    (i : ℕ) (u v cells marks : List ℕ) → Stage h i → Row h u → Row h v → before i u ≡ before i v → (u ≢ v)
    → length cells ≡ h.breadth → length marks ≡ h.breadth
    → 2 * h.distance i ≤ harm cells marks (h.word u) + harm cells marks (h.word v)

-- so at most one answer is an estimate
abbrev pub OneEstimate : ChainModel → Type 0
OneEstimate h =
    (i : ℕ) (labels cells marks : List ℕ) (e f : Option Estimate) → Stage h i → length cells ≡ h.breadth → length marks ≡ h.breadth
    → Estimates h i labels cells marks e → Estimates h i labels cells marks f → e ≡ f

pub record Derived (h : ChainModel) : Type 0 where
  pub two_rows : TwoRows h
  pub one_estimate : OneEstimate h
  pub within : (i : ℕ) → Stage h i → h.distance i ≤ h.breadth
  pub at_most : (i : ℕ) → Stage h i → h.distance i ≤ 16

-- where nothing is refused, whatever is an estimate is the answer
abbrev pub Determined : ChainModel → ℕ → List ℕ → List ℕ → List ℕ → Result (Option Estimate) Fault → Type 0
Determined h i labels cells marks r =
    estimate_refusal h.breadth h.stages h.width i labels cells marks ≡ None
    → (e : Option Estimate) → Estimates h i labels cells marks e → r ≡ Ok e
