use Rattle.std.proofs.Common.{◌≡◌, ◌-◌, take, sym, ap, ◌∙◌, ap₂, arith}
use lib.Bits.{bit_xor}
use Rattle.chains.specs.Bits.{spelled}
use Rattle.chains.specs.Even.{filled}
use Rattle.chains.proofs.EvenBits.{spelled_still, spelled_turned}
use Rattle.chains.proofs.Readings.{cells_of, marks_of}
use Rattle.chains.proofs.even.Even.spell_turned.Goals as goal

pub returns-then-flip-eq0 : goal.returns-then-flip-eq0
returns-then-flip-eq0 c =
    let n = c.args.self.now.n in
    let cells = c.args.reading.now.cells.now in
    let marks = c.args.reading.now.marks.now in
    c.spell_front-number.ensures
    ∙ spelled_still n cells marks (cells_of c.args.self.now.n c.args.reading.now c.requires.0) (marks_of c.args.self.now.n c.args.reading.now c.requires.0)
    ∙ ap (λ flip. spelled (take (n - 1) (filled flip cells marks))) (sym c.if-flip-eq0.true)

pub returns-else-flip-eq0 : goal.returns-else-flip-eq0
returns-else-flip-eq0 c =
    let n = c.args.self.now.n in
    let cells = c.args.reading.now.cells.now in
    let marks = c.args.reading.now.marks.now in
    let one : 1 ≡ c.args.flip = omega (arith, c.requires.1, c.if-flip-eq0.false) in
    ap₂ bit_xor c.spell_front-number.ensures c.spell_front.ensures
    ∙ spelled_turned n cells marks (cells_of c.args.self.now.n c.args.reading.now c.requires.0) (marks_of c.args.self.now.n c.args.reading.now c.requires.0)
    ∙ ap (λ flip. spelled (take (n - 1) (filled flip cells marks))) one
