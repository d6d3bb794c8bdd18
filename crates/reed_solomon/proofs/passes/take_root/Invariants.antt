use Rattle.reed_solomon_laws.proofs.Rewriting.{Rewritten}
use Rattle.reed_solomon.specs.Passes.{plus_multiple, with_root}
use Rattle.reed_solomon.proofs.passes.take_root.Given as goal

abbrev pub invariant-loop-j : goal.invariant-loop-j
invariant-loop-j g l =
    let f = g.F.Field.model l.field in
    Rewritten l.initial.v l.v (plus_multiple f l.c l.initial.p l.initial.v) l.j
    × Rewritten l.initial.p l.p (with_root f l.x l.initial.p) l.j
