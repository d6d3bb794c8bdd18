use Rattle.chains.specs.EvenWords.{even_meaning}
use Rattle.chains.proofs.even.meaning_stands.Goals as goal

pub returns : goal.returns
returns c = even_meaning c.args.n
