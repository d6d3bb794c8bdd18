use Rattle.std.proofs.Common.{List, sym, subst}
use Rattle.std.specs.List.{AllByRecursion}
use Rattle.recipes.specs.declared.table.Stage.{Stage}
use Rattle.recipes.specs.Totals.{Bounded}
use Rattle.recipes.proofs.Bounds.{all_bounded}
use Rattle.recipes.proofs.recipe.Recipe.reach.Goals as goal

pub least_reach-requires : goal.least_reach-requires
least_reach-requires c =
    let t = c.args.self.now.table in
    let h = c.args.self.now.lawful in
    subst (λ (xs : List Stage). AllByRecursion Bounded xs) (sym c.stages.ensures) (all_bounded t h)
