use Rattle.std.proofs.Common.{◌≡◌, ◌+◌, ◌^◌, sym, ap, ◌∙◌, ap₂, arith}
use Rattle.words.specs.Buffers.{checked}
use Rattle.words.proofs.Rises.{raised, checked_err}
use Rattle.chains.specs.Bits.{bits_of}
use Rattle.chains.specs.Model.{at_stage}
use Rattle.chains.specs.Promises.{kept_or}
use Rattle.chains.specs.ReedMuller.{muller_widths, muller_word}
use Rattle.chains.specs.Votes.{columns, laid}
use Rattle.chains.proofs.Due.{same_row, row_passed}
use Rattle.chains.specs.Fits.{row_fits}
use Rattle.chains.specs.MullerColumns.{muller_sizes}
use Rattle.chains.specs.MullerWords.{word_is}
use Rattle.chains.specs.Spelling.{bits_none}
use Rattle.chains.proofs.reed_muller.ReedMullerChain.word_of.Goals as goal

pub returns-in_err-check_row-clause-sound : goal.returns-in_err-check_row-clause-sound
returns-in_err-check_row-clause-sound c =
    let r = c.args.self.now.r in
    let labels = c.args.labels.now in
    let cells = c.args.cells.now in
    let stages = (muller_sizes r c.args.self.now.range).stages in
    let due = sym (same_row labels cells c.frame.ensures.breadth c.frame.ensures.widths stages) ∙ checked_err _ c.in_err-check_row.ensures in
    λ _. ((raised _ c.from_residual.ensures.1 ∙ ap checked (sym due), ap (λ z. kept_or z cells (muller_word r labels)) (sym due)))

pub join-row-requires : goal.join-row-requires
join-row-requires c =
    let r = c.args.self.now.r in
    let stages = (muller_sizes r c.args.self.now.range).stages in
    let fits = row_fits (2 ^ r) (r + 1) (at_stage (muller_widths r)) c.args.labels.now c.args.cells.now (row_passed c.args.labels.now c.args.cells.now c.frame.ensures.breadth c.frame.ensures.widths stages c.in_ok-check_row.ensures) in
    (omega (arith, fits.many), fits.each)

pub returns-clause-sound : goal.returns-clause-sound
returns-clause-sound c =
    let r = c.args.self.now.r in
    let labels = c.args.labels.now in
    let cells = c.args.cells.now in
    let stages = (muller_sizes r c.args.self.now.range).stages in
    let due = row_passed labels cells c.frame.ensures.breadth c.frame.ensures.widths stages c.in_ok-check_row.ensures in
    let fits = row_fits (2 ^ r) (r + 1) (at_stage (muller_widths r)) labels cells due in
    let word : c.write_bits.new.bits ≡ muller_word r labels =
    c.write_bits.ensures
    ∙ ap (λ k. bits_of k c.take_off.result) fits.room
    ∙ c.take_off.ensures.is
    ∙ ap₂ (laid (columns r)) c.join-row.ensures.bits (bits_none (2 ^ r))
    ∙ sym (word_is r c.args.self.now.range labels) in
    λ _. ((ap checked (sym due), word ∙ ap (λ z. kept_or z cells (muller_word r labels)) (sym due)))
