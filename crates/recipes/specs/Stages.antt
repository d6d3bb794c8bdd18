-- The record of a stage. Assumes nothing.
use Rattle.std.specs.Prelude.{ℕ}
use Rattle.recipes.specs.declared.kinds.ChainKind.{ChainKind}
use Rattle.recipes.specs.declared.kinds.CodeKind.{CodeKind}
use Rattle.recipes.specs.declared.kinds.CodeKind.TheVariants.{Open}
use Rattle.recipes.specs.declared.table.Stage.{Stage}
use Rattle.recipes.specs.Chains.{width_at, distance_at}
use Rattle.recipes.specs.Codes.{outer_distance}

-- the stage with index i of a chain over N columns, whose code has this kind and message length
abbrev pub stage_of : ChainKind → ℕ → ℕ → CodeKind → ℕ → Stage
stage_of chain n i kind k =
    record { kind = kind; width = width_at chain i; inner = distance_at chain i; len = n; message_len = k; distance = outer_distance kind n k }

-- a stage that the chain does not have
abbrev pub blank : Stage
blank = record { kind = Open; width = 0; inner = 0; len = 0; message_len = 0; distance = 0 }
