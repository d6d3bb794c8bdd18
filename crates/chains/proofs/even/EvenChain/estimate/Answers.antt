use Rattle.std.proofs.Common.{◌≡◌, ℕ, ◌<◌, List, [], ◌∷◌, length, get_or, Ok, sym, refl, subst₂, arith}
use Rattle.words.specs.Buffers.{checked}
use Rattle.chains.specs.Even.{even_widths, even_chain}
use Rattle.chains.specs.Model.{at_stage, LabelsFrom}
use Rattle.chains.specs.Promises.{Estimates}
use Rattle.chains.specs.Refusals.{estimate_refusal, ReadingFits}
use Rattle.chains.proofs.Due.{reading_passed, answers}
use Rattle.chains.proofs.Readings.{binary_rows}
use Rattle.chains.specs.Fits.{reading_fits}
use Rattle.chains.proofs.even.EvenChain.estimate.Goals as goal

-- a single label, which is below 2
one_label : (n : ℕ) (labels : List ℕ) → length labels ≡ 1 → LabelsFrom (at_stage (even_widths n)) 1 labels → (get_or labels 0 0 < 2) × (labels ≡ get_or labels 0 0 ∷ [])
one_label n [] l a = absurd (omega arith)
one_label n (x ∷ []) l a = (a.0, refl)
one_label n (x ∷ y ∷ labels) l a = absurd (omega arith)

reading : (n i : ℕ) (labels cells marks : List ℕ) {m : ℕ} {ws : List ℕ} {u : Unit {0}} → m ≡ n → ws ≡ even_widths n → Ok u ≡ checked (estimate_refusal m (length ws) (at_stage ws) i labels cells marks) → ReadingFits n 2 (at_stage (even_widths n)) i labels cells marks
reading n i labels cells marks em ew e = reading_fits n 2 (at_stage (even_widths n)) i labels cells marks (reading_passed i labels cells marks em ew refl e)

pub invariant_of-reading : goal.invariant_of-reading
invariant_of-reading c =
    let fits = reading c.args.self.now.n c.args.stage c.args.labels.now c.args.cells.now c.args.marks.now c.from.ensures c.widths.ensures c.in_ok-check_reading.ensures in
    let rows = binary_rows _ _ _ fits.cells_fit fits.marks_fit in
    record { paired = rows.0; cells_small = rows.1; marks_small = rows.2 }

pub invariant_of-reading-else-stage-eq1 : goal.invariant_of-reading-else-stage-eq1
invariant_of-reading-else-stage-eq1 c =
    let fits = reading c.args.self.now.n c.args.stage c.args.labels.now c.args.cells.now c.args.marks.now c.from.ensures c.widths.ensures c.in_ok-check_reading.ensures in
    let rows = binary_rows _ _ _ fits.cells_fit fits.marks_fit in
    record { paired = rows.0; cells_small = rows.1; marks_small = rows.2 }

pub returns-else-stage-eq1-clause-sound : goal.returns-else-stage-eq1-clause-sound
returns-else-stage-eq1-clause-sound c =
    let n = c.args.self.now.n in
    let cells = c.args.cells.now in
    let marks = c.args.marks.now in
    let none = reading_passed c.args.stage c.args.labels.now cells marks c.from.ensures c.widths.ensures refl c.in_ok-check_reading.ensures in
    let fits = reading n c.args.stage c.args.labels.now cells marks c.from.ensures c.widths.ensures c.in_ok-check_reading.ensures in
    let two : 2 ≡ c.args.stage = omega (arith, fits.low, fits.high) in
    let one = one_label n c.args.labels.now (omega (arith, fits.many)) fits.each in
    let near = subst₂ (λ (i : ℕ) (labels : List ℕ). Estimates (even_chain n) i labels cells marks c.estimate_second.result) two (sym one.1) c.estimate_second.ensures in
    λ _. (answers _ (Estimates (even_chain n) c.args.stage c.args.labels.now cells marks) _ none near)
