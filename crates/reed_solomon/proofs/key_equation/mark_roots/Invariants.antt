use Rattle.reed_solomon.specs.Passes.{Skips}
use Rattle.reed_solomon.proofs.key_equation.mark_roots.Given as goal

abbrev pub invariant-loop-x : goal.invariant-loop-x
invariant-loop-x l = Skips l.x l.marks l.e l.skip
