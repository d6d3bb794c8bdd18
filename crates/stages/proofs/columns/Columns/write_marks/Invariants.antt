use Rattle.std.proofs.Common.{◌≡◌, map, take}
use Rattle.stage_laws.specs.Trials.{trial_mark}
use Rattle.stages.proofs.columns.Columns.write_marks.Given as goal

abbrev pub invariant-loop-j : goal.invariant-loop-j
invariant-loop-j l = take l.j l.marks ≡ map (trial_mark l.threshold) (take l.j l.self.estimates.now)
