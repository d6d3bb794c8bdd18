use Rattle.std.proofs.Common.{get_or, refl, ap, ◌∙◌, arith}
use Rattle.chains.specs.Bits.{bits_of}
use Rattle.chains.specs.EvenWords.{two_labels}
use Rattle.chains.proofs.EvenBits.{front_written, word_written}
use Rattle.chains.proofs.even.Even.lay.Goals as goal

pub parity_of-requires : goal.parity_of-requires
parity_of-requires c =
    (refl, front_written c.from-last.result _ _ c.args.cells.now (omega (arith, c.requires.room, c.from-last.ensures)) c.write_bits.ensures)

pub returns : goal.returns
returns c =
    let n = c.args.self.now.n in
    let labels = c.args.labels.now in
    let small = (two_labels n labels (c.requires.many, c.requires.each)).0 in
    word_written n c.from-last.result (get_or labels 0 0) (get_or labels 1 0) c.parity_of.result c.write_bits.new.bits c.args.cells.now c.from-last.ensures (omega arith) c.requires.room small
    (c.write_bits.ensures ∙ ap (bits_of _) c.from.ensures) c.parity_of.ensures
