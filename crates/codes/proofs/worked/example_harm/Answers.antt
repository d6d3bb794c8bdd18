use Rattle.codes.proofs.Examples.{repetition_example}
use Rattle.codes.proofs.worked.example_harm.Goals as goal

pub returns-clause-holds : goal.returns-clause-holds
returns-clause-holds c = repetition_example
