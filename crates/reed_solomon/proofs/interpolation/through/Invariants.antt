use Rattle.std.proofs.Common.{◌≤◌, length}
use Rattle.reed_solomon_laws.proofs.Arrays.{Interpolated}
use Rattle.reed_solomon.proofs.interpolation.through.Given as goal

abbrev pub invariant-loop-x : goal.invariant-loop-x
invariant-loop-x g l =
    Interpolated (g.F.Field.model l.field) (length l.initial.v) l.wanted l.symbols l.skip l.x l.v l.p l.taken × (l.taken ≤ l.x)
