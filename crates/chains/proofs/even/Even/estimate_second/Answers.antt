use Rattle.std.proofs.Common.{◌≡◌, ℕ, ◌+◌, ◌%◌, ◌<◌, [], ◌∷◌, Some, sym, ap, ◌∙◌, subst₂, inl, inr, ⊎_elim, arith}
use lib.Bits.{bit_xor}
use Rattle.chains.specs.Bits.{total}
use Rattle.chains.specs.Even.{even_chain}
use Rattle.chains.specs.Promises.{Estimates}
use Rattle.chains.proofs.EvenEstimates.{second_some, second_none}
use Rattle.chains.specs.Parity.{xor_bit}
use Rattle.chains.proofs.Readings.{cells_of, marks_of}
use Rattle.chains.proofs.even.Even.estimate_second.Goals as goal

turn : (odd even : ℕ) {x : ℕ} → odd < 2 → x ≡ even % 2 → bit_xor odd x ≡ (odd + even % 2) % 2
turn odd even small is = ap (bit_xor odd) is ∙ xor_bit odd (even % 2) small (omega arith)

pub returns-then-blanks-from : goal.returns-then-blanks-from
returns-then-blanks-from c =
    let cells = c.args.reading.now.cells.now in
    let flip = turn c.args.odd (total cells) c.requires.1 c.parity_of.ensures in
    second_none c.args.self.now.n c.args.self.now.range cells c.args.reading.now.marks.now (cells_of c.args.self.now.n c.args.reading.now c.requires.0) (marks_of c.args.self.now.n c.args.reading.now c.requires.0) c.args.odd _ c.requires.1 flip
    (⊎_elim (λ few. inl (omega (arith, few, c.from.ensures, c.ones_of-blanks.ensures))) (λ many. inr (omega (arith, many, c.ones_of-blanks.ensures))) c.then-blanks-from.either)

pub returns : goal.returns
returns c =
    let n = c.args.self.now.n in
    let cells = c.args.reading.now.cells.now in
    let marks = c.args.reading.now.marks.now in
    let odd = c.args.odd in
    let flip = turn odd (total cells) c.requires.1 c.parity_of.ensures in
    subst₂ (λ (x y : ℕ). Estimates (even_chain n) 2 (odd ∷ []) cells marks (Some (record { label = x; harm = y }))) (sym c.spell_turned-label.ensures) (sym c.ones_of-blanks.ensures)
    (second_some n c.args.self.now.range cells marks (cells_of c.args.self.now.n c.args.reading.now c.requires.0) (marks_of c.args.self.now.n c.args.reading.now c.requires.0) odd _ c.requires.1 flip (omega (arith, c.from.ensures, c.ones_of-blanks.ensures)) (omega (arith, c.ones_of-blanks.ensures)))
