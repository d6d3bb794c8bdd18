use Rattle.chains.proofs.MullerExamples.{muller_examples}
use Rattle.chains.proofs.examples.examples_stand.Goals as goal

pub returns : goal.returns
returns c = muller_examples
