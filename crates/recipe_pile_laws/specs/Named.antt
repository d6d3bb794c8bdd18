-- The chain and the codes that a recipe names. Assumes nothing.
use Rattle.std.specs.Prelude.{ℕ, ◌/◌, cond, List, map, ◌==◌}
use Rattle.field_laws.specs.Fields.{FieldModel}
use Rattle.field_laws.specs.Polynomials.{polynomial}
use Rattle.field_laws.specs.Extensions.{extension}
use Rattle.codes.specs.Model.{CodeModel}
use Rattle.codes.specs.Kinds.{open_code, repetition_code}
use Rattle.reed_solomon_laws.specs.Words.{reed_solomon}
use Rattle.chains.specs.Model.{ChainModel}
use Rattle.chains.specs.ReedMuller.{muller_chain}
use Rattle.chains.specs.Even.{even_chain}
use Rattle.recipes.specs.declared.kinds.ChainKind.{ChainKind}
use Rattle.recipes.specs.declared.kinds.ChainKind.TheVariants.{ReedMuller, Even}
use Rattle.recipes.specs.declared.kinds.CodeKind.{CodeKind}
use Rattle.recipes.specs.declared.kinds.CodeKind.TheVariants.{Open, ReedSolomon, Repetition, ExtendedReedSolomon}
use Rattle.recipes.specs.declared.table.Stage.{Stage}
use Rattle.recipes.specs.declared.table.Table.{Table}
use Rattle.recipes.specs.Totals.{used_stages}

abbrev pub named_chain : ChainKind → ChainModel
named_chain (ReedMuller r) = muller_chain r
named_chain (Even n) = even_chain n

-- the extension of a width, 2, 4, 6 or 8, over the polynomial field of half the width, with c = 1, 2, 1 or 8
abbrev pub extension_constant : ℕ → ℕ
extension_constant width = cond (width == 4) 2 (cond (width == 8) 8 1)

abbrev pub half_extension : ℕ → FieldModel
half_extension width = extension (polynomial (width / 2)) (extension_constant width)

abbrev pub named_code : CodeKind → ℕ → ℕ → ℕ → CodeModel
named_code Open width n k = open_code width n
named_code ReedSolomon width n k = reed_solomon (polynomial width) n k
named_code Repetition width n k = repetition_code width n
named_code ExtendedReedSolomon width n k = reed_solomon (half_extension width) n k

abbrev pub stage_code : Stage → CodeModel
stage_code s = named_code s.kind s.width s.len s.message_len

abbrev pub table_codes : Table → List CodeModel
table_codes t = map stage_code (used_stages t)
