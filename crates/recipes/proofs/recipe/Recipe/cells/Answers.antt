use Rattle.std.proofs.Common.{ℕ, ◌*◌, ◌≤◌, sym, subst, arith}
use Rattle.recipes.proofs.Bounds.{known_chain, cells_within}
use Rattle.recipes.proofs.recipe.Recipe.cells.Goals as goal

pub cells-requires : goal.cells-requires
cells-requires c = known_chain c.args.self.now.table c.args.self.now.lawful

pub overflow_mul-result : goal.overflow_mul-result
overflow_mul-result c =
    let t = c.args.self.now.table in
    let within = cells_within t c.args.self.now.lawful in
    let here : c.cells.result * t.columns ≤ 4096 = subst (λ (n : ℕ). n * t.columns ≤ 4096) (sym c.cells.ensures) within in
    record { fits = omega arith }
