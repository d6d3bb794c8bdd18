use Rattle.std.proofs.Common.{◌+◌, ◌≤◌, length}
use Rattle.reed_solomon_laws.proofs.Arrays.{Keyed}
use Rattle.reed_solomon.specs.Passes.{Lengths}
use Rattle.reed_solomon.proofs.key_equation.KeyEquation.solve.Given as goal

abbrev pub invariant-loop-x : goal.invariant-loop-x
invariant-loop-x g l =
    Keyed (g.F.Field.model l.self.field.now) (length l.self.word.now) l.self.word.now l.self.marks.now l.self.g.now l.self.p.now l.x l.first.q.now l.first.e.now l.second.q.now l.second.e.now l.first.bound l.second.bound
    × (l.first.bound + l.second.bound ≤ 1 + l.x)
    × Lengths (length l.self.word.now) l.first.q.now l.first.e.now l.second.q.now l.second.e.now
