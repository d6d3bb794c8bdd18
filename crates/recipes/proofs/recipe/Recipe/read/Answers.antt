use Rattle.recipes.proofs.Uniqueness.{single_meaning}
use Rattle.recipes.proofs.recipe.Recipe.read.Goals as goal

-- what the bytes describe is lawful
pub returns-in_err-chain-clause-single : goal.returns-in_err-chain-clause-single
returns-in_err-chain-clause-single c = single_meaning c.args.bytes.now

pub returns-in_err-columns-clause-single : goal.returns-in_err-columns-clause-single
returns-in_err-columns-clause-single c = single_meaning c.args.bytes.now

pub returns-in_err-table-clause-single : goal.returns-in_err-table-clause-single
returns-in_err-table-clause-single c = single_meaning c.args.bytes.now

pub returns-clause-single : goal.returns-clause-single
returns-clause-single c = single_meaning c.args.bytes.now
