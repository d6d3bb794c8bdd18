use Rattle.std.proofs.Common.{ℕ, ◌+◌, ◌-◌, ◌<◌, ◌≤◌, List}
use Rattle.stage_laws.specs.Rule.{Chosen}
use Rattle.stage_laws.specs.Trials.{trial_harm}
use Rattle.stages.proofs.columns.Columns.search.Given as goal

-- a choice lies too far for every threshold so far
abbrev pub invariant-trials : goal.invariant-trials
invariant-trials g l =
    (1 ≤ l.threshold) × (l.threshold ≤ l.self.inner + 1)
    × ((u : List ℕ) → Chosen (g.C.Code.model l.code) l.self.inner l.self.estimates.now u → (t : ℕ) → t < l.threshold → 1 ≤ t → (g.C.Code.model l.code).distance ≤ trial_harm t l.self.estimates.now ((g.C.Code.model l.code).codeword u))

abbrev pub decreases-trials : goal.decreases-trials
decreases-trials g l = l.self.inner + 1 - l.threshold
