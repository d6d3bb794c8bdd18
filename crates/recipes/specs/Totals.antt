-- What a table comes to as a whole. Assumes nothing.
use Rattle.std.specs.Prelude.{ℕ, ◌*◌, ◌≤◌, min, List, [], ◌∷◌, map, take, sum_by}
use Rattle.recipes.specs.declared.table.Stage.{Stage}
use Rattle.recipes.specs.declared.table.Table.{Table}
use Rattle.recipes.specs.Chains.{cells_of, stages_of}

-- the records of the stages that the chain has
abbrev pub used_stages : Table → List Stage
used_stages t = take (stages_of t.chain) t.stages

-- small enough that no total of a table passes what a machine word holds
abbrev pub Bounded : Stage → Type 0
Bounded s = (s.width ≤ 8) × ((s.inner ≤ 16) × ((s.message_len ≤ 4096) × (s.distance ≤ 4096)))

abbrev pub page_cells : Table → ℕ
page_cells t = cells_of t.chain * t.columns

abbrev pub stage_bits : Stage → ℕ
stage_bits s = s.message_len * s.width

abbrev pub message_bits : Table → ℕ
message_bits t = sum_by stage_bits (used_stages t)

abbrev pub stage_reach : Stage → ℕ
stage_reach s = s.inner * s.distance

abbrev pub least : ℕ → List ℕ → ℕ
least m [] = m
least m (x ∷ xs) = least (min m x) xs

-- the least of a list's numbers
abbrev pub smallest : List ℕ → ℕ
smallest [] = 0
smallest (x ∷ xs) = least x xs

-- the pile's distance: the least inner times outer distance over the stages
abbrev pub reach_of : Table → ℕ
reach_of t = smallest (map stage_reach (used_stages t))
