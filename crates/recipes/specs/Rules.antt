-- The rules of the recipe's format in the order in which they are checked, each with its refusal. Assumes nothing.
use Rattle.std.specs.Prelude.{◌≡◌, ℕ, zero, suc, ◌+◌, ◌*◌, ◌<◌, ◌≤◌, Bool, true, false, cond, not, ◌||◌, List, [], ◌∷◌, ◌++◌, length, is_some, Some, None, Option, ◌==◌, nat_lt, slice_index}
use Rattle.words.specs.declared.fault.Fault.{Fault}
use Rattle.words.specs.declared.fault.Kind.{Kind}
use Rattle.words.specs.declared.fault.Kind.TheVariants.{RecipeEnds, UnknownChain, BytesLeftOver, Columns, StageKind, StageSize}
use Rattle.words.specs.declared.fault.Layer.TheVariants.{Recipe}
use Rattle.words.specs.Faults.{fault}
use Rattle.recipes.specs.declared.kinds.ChainKind.{ChainKind}
use Rattle.recipes.specs.declared.kinds.CodeKind.{CodeKind}
use Rattle.recipes.specs.Chains.{chain_named, cells_of, stages_of, width_at}
use Rattle.recipes.specs.Codes.{code_named, fits_kind}
use Rattle.recipes.specs.declared.table.Table.{Table}
use Rattle.recipes.specs.Meaning.{two_bytes, Describes}

-- a rule: whether the bytes break it, and the refusal that it then gives
pub record Rule : Type 0 where
  pub broken : Bool
  pub due : Fault

abbrev pub rule : Bool → Kind → ℕ → Rule
rule broken kind place = record { broken = broken; due = fault kind Recipe place }

abbrev pub first_broken : List Rule → Option Fault
first_broken [] = None
first_broken (r ∷ rs) = cond r.broken (Some r.due) (first_broken rs)

-- a field that ends before the offset `end` is there
abbrev pub ends_before : List ℕ → ℕ → Rule
ends_before b end = rule (nat_lt (length b) end) RecipeEnds (length b)

-- the kind that the stage with index i names
abbrev pub kind_at : List ℕ → ChainKind → ℕ → Option CodeKind
kind_at b chain i = code_named (slice_index b (3 + 3 * i)) (width_at chain i)

abbrev pub size_fits : Option CodeKind → ℕ → ℕ → ℕ → Bool
size_fits None width n k = false
size_fits (Some kind) width n k = fits_kind kind width n k

abbrev pub stage_rules : List ℕ → ChainKind → ℕ → List Rule
stage_rules b chain i =
    ends_before b (4 + 3 * i)
    ∷ rule (not (is_some (kind_at b chain i))) StageKind (3 + 3 * i)
    ∷ ends_before b (6 + 3 * i)
    ∷ rule (not (size_fits (kind_at b chain i) (width_at chain i) (two_bytes b 1) (two_bytes b (4 + 3 * i)))) StageSize (4 + 3 * i)
    ∷ []

-- the rules of `left` stages from index i on, and then that nothing follows them
abbrev pub rules_from : List ℕ → ChainKind → ℕ → ℕ → List Rule
rules_from b chain zero i = rule (nat_lt (3 + 3 * i) (length b)) BytesLeftOver (3 + 3 * i) ∷ []
rules_from b chain (suc left) i = stage_rules b chain i ++ rules_from b chain left (suc i)

abbrev pub chain_rules : List ℕ → Option ChainKind → List Rule
chain_rules b None = rule true UnknownChain 0 ∷ []
chain_rules b (Some chain) =
    ends_before b 3
    ∷ rule (two_bytes b 1 == 0 || nat_lt 4096 (cells_of chain * two_bytes b 1)) Columns 1
    ∷ rules_from b chain (stages_of chain) 0

abbrev pub rules : List ℕ → List Rule
rules b = ends_before b 1 ∷ chain_rules b (chain_named (slice_index b 0))

-- the refusal of a recipe: that of the first rule that its bytes break
abbrev pub recipe_refusal : List ℕ → Option Fault
recipe_refusal b = first_broken (rules b)

-- the chain and the columns stand in the bytes and keep their rules
pub record Headed (b : List ℕ) (chain : ChainKind) (columns : ℕ) : Type 0 where
  pub long : 3 ≤ length b
  pub named : chain_named (slice_index b 0) ≡ Some chain
  pub spelled : columns ≡ two_bytes b 1
  pub some_columns : 0 < columns
  pub cells_fit : cells_of chain * columns ≤ 4096

-- bytes describe at most one table, and break no rule where they describe one
abbrev pub SingleMeaning : List ℕ → Type 0
SingleMeaning b =
    ((t u : Table) → Describes b t → Describes b u → t ≡ u) × ((t : Table) → Describes b t → recipe_refusal b ≡ None)
