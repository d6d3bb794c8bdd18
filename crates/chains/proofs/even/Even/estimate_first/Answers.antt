use Rattle.std.proofs.Common.{ℕ, [], Some, sym, subst, arith}
use Rattle.chains.specs.Even.{even_chain}
use Rattle.chains.specs.Promises.{Estimates}
use Rattle.chains.proofs.EvenEstimates.{first_some, first_none}
use Rattle.chains.proofs.Readings.{cells_of, marks_of}
use Rattle.chains.proofs.even.Even.estimate_first.Goals as goal

pub returns-then-ones_of-eq0 : goal.returns-then-ones_of-eq0
returns-then-ones_of-eq0 c =
    let n = c.args.self.now.n in
    let cells = c.args.reading.now.cells.now in
    let marks = c.args.reading.now.marks.now in
    subst (λ (x : ℕ). Estimates (even_chain n) 1 [] cells marks (Some (record { label = x; harm = 0 }))) (sym c.parity_of-label.ensures)
    (first_some n c.args.self.now.range cells marks (cells_of c.args.self.now.n c.args.reading.now c.requires) (marks_of c.args.self.now.n c.args.reading.now c.requires) (omega arith))

pub returns-else-ones_of-eq0 : goal.returns-else-ones_of-eq0
returns-else-ones_of-eq0 c =
    first_none c.args.self.now.n c.args.self.now.range c.args.reading.now.cells.now c.args.reading.now.marks.now (cells_of c.args.self.now.n c.args.reading.now c.requires) (marks_of c.args.self.now.n c.args.reading.now c.requires) (omega arith)
