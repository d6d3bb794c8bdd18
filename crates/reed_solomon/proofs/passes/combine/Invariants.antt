use Rattle.reed_solomon_laws.proofs.Rewriting.{Rewritten}
use Rattle.reed_solomon.specs.Passes.{combination}
use Rattle.reed_solomon.proofs.passes.combine.Given as goal

abbrev pub invariant-loop-j : goal.invariant-loop-j
invariant-loop-j g l = let f = g.F.Field.model l.field in Rewritten l.initial.v l.v (combination f l.a l.initial.v l.b l.p) l.j
