use Rattle.std.proofs.Common.{refl}
use Rattle.chains.specs.Even.{even_widths}
use Rattle.chains.specs.Model.{at_stage}
use Rattle.chains.proofs.Due.{row_passed}
use Rattle.chains.specs.Fits.{row_fits}
use Rattle.chains.proofs.even.EvenChain.word_of.Goals as goal

pub lay-requires : goal.lay-requires
lay-requires c =
    let labels = c.args.labels.now in
    let cells = c.args.cells.now in
    let due = row_passed labels cells c.from.ensures c.widths.ensures refl c.in_ok-check_row.ensures in
    row_fits c.args.self.now.n 2 (at_stage (even_widths c.args.self.now.n)) labels cells due
