use Rattle.std.proofs.Common.{◌≤◌, List, length, sym, subst}
use Rattle.std.specs.List.{AllByRecursion}
use Rattle.recipes.specs.declared.table.Stage.{Stage}
use Rattle.recipes.specs.Totals.{Bounded}
use Rattle.recipes.proofs.Bounds.{all_bounded, few_used}
use Rattle.recipes.proofs.recipe.Recipe.message_bits.Goals as goal

pub sum_bits-requires : goal.sum_bits-requires
sum_bits-requires c =
    let t = c.args.self.now.table in
    let h = c.args.self.now.lawful in
    subst (λ (xs : List Stage). AllByRecursion Bounded xs × (length xs ≤ 5)) (sym c.stages.ensures) (all_bounded t h, few_used t h)
