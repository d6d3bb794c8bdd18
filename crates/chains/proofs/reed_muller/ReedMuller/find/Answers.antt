use Rattle.std.proofs.Common.{◌^◌}
use Rattle.chains.specs.MullerColumns.{muller_sizes}
use Rattle.chains.proofs.Masks.{packed}
use Rattle.chains.proofs.MullerEstimates.{Worked, worked_bits, worked_harm}
use Rattle.chains.proofs.reed_muller.ReedMuller.find.Goals as goal

pub take_off-begun-requires : goal.take_off-begun-requires
take_off-begun-requires c =
    let few = (muller_sizes c.args.self.now.r c.args.self.now.range).few_cells in
    (c.join-decided.ensures.fits, (packed (2 ^ c.args.self.now.r) _ _ few c.requires.cells_fit c.spell.ensures).1)

pub returns : goal.returns
returns c =
    let r = c.args.self.now.r in
    let range = c.args.self.now.range in
    let labels = c.args.labels.now in
    let cells = c.args.reading.now.cells.now in
    let marks = c.args.reading.now.marks.now in
    let few = (muller_sizes r range).few_cells in
    let word = packed (2 ^ r) _ cells few c.requires.cells_fit c.spell.ensures in
    let blank = packed (2 ^ r) _ marks few c.requires.marks_fit c.spell-blank.ensures in
    let worked : Worked r labels cells marks = record {
      count = c.join-decided.result.count;
      bits = c.join-decided.result.bits;
      word = c.spell.result;
      blank = c.spell-blank.result;
      begun = c.take_off-begun.result;
      settled_bits = c.settle-settled.result.bits;
      rest = c.settle-settled.result.rest;
      count_is = c.join-decided.ensures.count;
      bits_are = c.join-decided.ensures.bits;
      word_is = word.0;
      blank_is = blank.0;
      blank_small = blank.1;
      begun_is = c.take_off-begun.ensures.is;
      settled_is = c.settle-settled.ensures.bits;
      rest_is = c.settle-settled.ensures.rest;
      rest_small = c.settle-settled.ensures.small;
    } in
    record {
      count = c.join-decided.ensures.count;
      bits = worked_bits r range c.args.stage labels cells marks c.requires worked;
      harm = worked_harm r range c.args.stage labels cells marks c.requires worked c.harm_left.result c.harm_left.ensures;
    }
