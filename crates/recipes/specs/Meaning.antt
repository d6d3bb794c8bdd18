-- What a recipe's bytes describe: a relation between the bytes and a table of stages. Assumes nothing.
use Rattle.std.specs.Prelude.{◌≡◌, ℕ, ◌+◌, ◌*◌, ◌<◌, ◌≤◌, true, List, length, get_or, slice_index, slice_index_or}
use Rattle.recipes.specs.declared.kinds.ChainKind.{ChainKind}
use Rattle.recipes.specs.declared.table.Stage.{Stage}
use Rattle.recipes.specs.declared.table.Table.{Table}
use Rattle.recipes.specs.Chains.{Known, chain_byte, cells_of, stages_of, width_at}
use Rattle.recipes.specs.Codes.{allowed, code_byte, fits_kind}
use Rattle.recipes.specs.Stages.{stage_of, blank}

-- a number in two bytes, high byte first
abbrev pub two_bytes : List ℕ → ℕ → ℕ
two_bytes b at = 256 * slice_index b at + slice_index b (at + 1)

abbrev pub stage_at : Table → ℕ → Stage
stage_at t i = slice_index_or t.stages i blank

-- the record is that of the stage with index i, and its code is one that the kind has
abbrev pub LawfulStage : ChainKind → ℕ → ℕ → Stage → Type 0
LawfulStage chain n i s =
    (s ≡ stage_of chain n i s.kind s.message_len)
    × (allowed s.kind (width_at chain i) ≡ true)
    × (fits_kind s.kind (width_at chain i) n s.message_len ≡ true)

-- the table of a pile that can be made
pub record Lawful (t : Table) : Type 0 where
  pub known : Known t.chain
  pub some_columns : 0 < t.columns
  pub cells_fit : cells_of t.chain * t.columns ≤ 4096
  pub five : length t.stages ≡ 5
  pub used : (i : ℕ) → i < stages_of t.chain → LawfulStage t.chain t.columns i (stage_at t i)
  pub unused : (i : ℕ) → stages_of t.chain ≤ i → stage_at t i ≡ blank

-- a kind byte and the message length in two bytes
abbrev pub SpelledStage : List ℕ → ℕ → Stage → Type 0
SpelledStage b i s = (slice_index b (3 + 3 * i) ≡ code_byte s.kind) × (two_bytes b (4 + 3 * i) ≡ s.message_len)

-- a chain byte, the columns in two bytes, and then each stage
pub record Describes (b : List ℕ) (t : Table) : Type 0 where
  pub lawful : Lawful t
  pub whole : length b ≡ 3 + 3 * stages_of t.chain
  pub chain : get_or b 0 0 ≡ chain_byte t.chain
  pub columns : two_bytes b 1 ≡ t.columns
  pub stages : (i : ℕ) → i < stages_of t.chain → SpelledStage b i (stage_at t i)
