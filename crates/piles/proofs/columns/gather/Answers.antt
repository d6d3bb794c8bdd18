use Rattle.std.proofs.Common.{length, arith}
use Rattle.pile_laws.proofs.Flat.{gathered_labels}
use Rattle.piles.proofs.columns.gather.Goals as goal

pub returns : goal.returns
returns c =
    gathered_labels c.args.columns (length c.args.labels.now) c.args.j c.args.words.now c.loop-k.labels c.requires.0 c.loop-k.auto.labels (λ k l. c.loop-k.invariant k (omega (arith, c.loop-k-test.false)))
