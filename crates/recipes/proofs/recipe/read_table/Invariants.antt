use Rattle.std.proofs.Common.{◌≡◌, ◌+◌, ◌-◌, ◌*◌, ◌≤◌, length}
use Rattle.recipes.specs.Rules.{first_broken, rules_from}
use Rattle.recipes.proofs.Filling.{Filled}
use Rattle.recipes.proofs.recipe.read_table.Given as goal

-- the stages before i are filled from the bytes, and the rules from i on decide
abbrev pub invariant-loop-i : goal.invariant-loop-i
invariant-loop-i l =
    Filled l.bytes l.chain l.columns l.i l.table
    × (3 + 3 * l.i ≤ length l.bytes)
    × (first_broken (rules_from l.bytes l.chain (l.stages - l.i) l.i) ≡ first_broken (rules_from l.bytes l.chain l.stages 0))
