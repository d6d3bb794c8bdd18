use Rattle.std.proofs.Common.{◌≡◌, drop}
use Rattle.chains.specs.Model.{at_stage}
use Rattle.chains.specs.Refusals.{large_label}
use Rattle.chains.proofs.checks.Frame.check_labels.Given as goal

-- what is left has the refusal of the whole
abbrev pub invariant-loop-i : goal.invariant-loop-i
invariant-loop-i l = large_label (at_stage l.self.widths.now) l.i (drop l.i l.labels) ≡ large_label (at_stage l.self.widths.now) 0 l.labels
