use Rattle.std.proofs.Common.{◌+◌, ◌^◌, sym, ◌∙◌}
use Rattle.words.proofs.Rises.{raised, checked_err}
use Rattle.chains.specs.Model.{at_stage}
use Rattle.chains.specs.Promises.{Estimates}
use Rattle.chains.specs.ReedMuller.{muller_chain, muller_widths}
use Rattle.chains.proofs.Due.{same_reading, reading_passed, answers, refuses}
use Rattle.chains.proofs.Readings.{binary_rows}
use Rattle.chains.specs.Fits.{reading_fits}
use Rattle.chains.specs.MullerColumns.{muller_sizes}
use Rattle.chains.proofs.reed_muller.ReedMullerChain.estimate.Goals as goal

pub returns-in_err-check_reading-clause-sound : goal.returns-in_err-check_reading-clause-sound
returns-in_err-check_reading-clause-sound c =
    let r = c.args.self.now.r in
    let labels = c.args.labels.now in
    let cells = c.args.cells.now in
    let marks = c.args.marks.now in
    let stages = (muller_sizes r c.args.self.now.range).stages in
    let due = sym (same_reading c.args.stage labels cells marks c.frame.ensures.breadth c.frame.ensures.widths stages) ∙ checked_err _ c.in_err-check_reading.ensures in
    λ _. (refuses _ (Estimates (muller_chain r) c.args.stage labels cells marks) c.from_residual.result due (raised _ c.from_residual.ensures.1))

pub invariant_of-nearest : goal.invariant_of-nearest
invariant_of-nearest c =
    let r = c.args.self.now.r in
    let stages = (muller_sizes r c.args.self.now.range).stages in
    let fits = reading_fits (2 ^ r) (r + 1) (at_stage (muller_widths r)) c.args.stage c.args.labels.now c.args.cells.now c.args.marks.now
    (reading_passed c.args.stage c.args.labels.now c.args.cells.now c.args.marks.now c.frame.ensures.breadth c.frame.ensures.widths stages c.in_ok-check_reading.ensures) in
    let rows = binary_rows _ _ _ fits.cells_fit fits.marks_fit in
    record { paired = rows.0; cells_small = rows.1; marks_small = rows.2 }

pub nearest-requires : goal.nearest-requires
nearest-requires c =
    let r = c.args.self.now.r in
    let stages = (muller_sizes r c.args.self.now.range).stages in
    reading_fits (2 ^ r) (r + 1) (at_stage (muller_widths r)) c.args.stage c.args.labels.now c.args.cells.now c.args.marks.now
    (reading_passed c.args.stage c.args.labels.now c.args.cells.now c.args.marks.now c.frame.ensures.breadth c.frame.ensures.widths stages c.in_ok-check_reading.ensures)

pub returns-clause-sound : goal.returns-clause-sound
returns-clause-sound c =
    let r = c.args.self.now.r in
    let labels = c.args.labels.now in
    let cells = c.args.cells.now in
    let marks = c.args.marks.now in
    let stages = (muller_sizes r c.args.self.now.range).stages in
    let none = reading_passed c.args.stage labels cells marks c.frame.ensures.breadth c.frame.ensures.widths stages c.in_ok-check_reading.ensures in
    λ _. (answers _ (Estimates (muller_chain r) c.args.stage labels cells marks) _ none c.nearest.ensures)
