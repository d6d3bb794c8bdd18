use Rattle.std.proofs.Common.{rules}
use Rattle.recipes.proofs.Bounds.{known_chain}
use Rattle.recipes.proofs.Filling.{few_stages}
use Rattle.recipes.proofs.recipe.Recipe.stages.Goals as goal

pub stages-requires : goal.stages-requires
stages-requires c = known_chain c.args.self.now.table c.args.self.now.lawful

pub slice_bounds-result-end : goal.slice_bounds-result-end
slice_bounds-result-end c =
    let t = c.args.self.now.table in
    let few = few_stages t.chain (known_chain t c.args.self.now.lawful) in
    search rules
