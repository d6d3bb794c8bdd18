-- What the calls of a sound chain promise: just the answer that its meaning gives. Assumes nothing.
use Rattle.std.specs.Prelude.{◌≡◌, ℕ, ◌<◌, ◌≤◌, List, Some, None, Err, Option, Result, MatchResult}
use Rattle.words.specs.declared.fault.Fault.{Fault}
use Rattle.words.specs.Buffers.{answered, checked}
use Rattle.words.specs.Harm.{harm}
use Rattle.chains.specs.declared.chain.Estimate.{Estimate}
use Rattle.chains.specs.Model.{ChainModel, Row, at_stage, before}
use Rattle.chains.specs.Refusals.{stage_refusal, word_refusal, estimate_refusal}

-- a number of one stage, as its width
abbrev pub OfStage : ChainModel → (ℕ → ℕ) → ℕ → Result ℕ Fault → Type 0
OfStage h number i r = r ≡ answered (stage_refusal h.stages i) (number i)

-- a refusal leaves what was there
abbrev pub kept_or : Option Fault → List ℕ → List ℕ → List ℕ
kept_or None old new = new
kept_or (Some f) old new = old

-- the cells hold the word of the labels afterwards
abbrev pub Worded : ChainModel → List ℕ → List ℕ → Result (Unit {0}) Fault → List ℕ → Type 0
Worded h labels cells r after =
    let due = word_refusal h.breadth h.stages h.width labels cells in
    (r ≡ checked due) × (after ≡ kept_or due cells (h.word labels))

-- a row that begins with the decided labels, and the harm of the reading against its word
abbrev pub Continues : ChainModel → ℕ → List ℕ → List ℕ → Type 0
Continues h i labels u = Row h u × (before i u ≡ labels)

-- the label and the harm of a row nearer than the stage's distance; absent where no row is
abbrev pub Estimates : ChainModel → ℕ → List ℕ → List ℕ → List ℕ → Option Estimate → Type 0
Estimates h i labels cells marks (Some e) =
    (u : List ℕ) × Continues h i labels u × (e.label ≡ at_stage u i) × (e.harm ≡ harm cells marks (h.word u)) × (e.harm < h.distance i)
Estimates h i labels cells marks None =
    (u : List ℕ) → Continues h i labels u → h.distance i ≤ harm cells marks (h.word u)

-- the refusal that is due, else an answer of which P holds
abbrev pub Answered : {X : Type 0} → Option Fault → (X → Type 0) → Result X Fault → Type 0
Answered (Some f) P r = r ≡ Err f
Answered None P r = MatchResult r P (λ _. ⊥)

abbrev pub Estimated : ChainModel → ℕ → List ℕ → List ℕ → List ℕ → Result (Option Estimate) Fault → Type 0
Estimated h i labels cells marks r =
    Answered (estimate_refusal h.breadth h.stages h.width i labels cells marks) (Estimates h i labels cells marks) r
