use Rattle.std.proofs.Common.{ℕ, ◌<◌, length, get_or}
use Rattle.std.proofs.ByRecursion.{All-get_or}
use Rattle.std.proofs.iter.Serving.{serving}
use Rattle.recipes.specs.declared.table.Stage.{Stage}
use Rattle.recipes.specs.Totals.{Bounded}
use Rattle.recipes.proofs.recipe.least_reach.Goals as goal

pub min-requires-clause-can : goal.min-requires-clause-can
min-requires-clause-can c =
    let stages = c.args.stages.now in
    let each : (k : ℕ) (d : Stage) → k < length stages → Bounded (get_or stages k d) = λ k d h. All-get_or Bounded stages k d h c.requires in
    grind (serving, each)
