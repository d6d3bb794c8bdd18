-- The numbers that a recipe gives, and those of the chain and the codes that it names. Assumes nothing.
use Rattle.std.specs.Prelude.{◌≡◌, ℕ, suc, ◌<◌, ◌≤◌, true, List}
use Rattle.codes.specs.Model.{CodeModel}
use Rattle.chains.specs.Model.{ChainModel}
use Rattle.recipes.specs.declared.kinds.ChainKind.{ChainKind}
use Rattle.recipes.specs.declared.table.Stage.{Stage}
use Rattle.recipes.specs.declared.table.Table.{Table}
use Rattle.recipes.specs.Chains.{cells_of, stages_of, width_at, distance_at}
use Rattle.recipes.specs.Codes.{allowed, fits_kind}
use Rattle.recipes.specs.Totals.{page_cells, message_bits, reach_of}
use Rattle.pile_laws.specs.Fit.{Fits}
use Rattle.pile_laws.specs.Pile.{pile}

-- a chain has the numbers of the one that a recipe names, whose stages have indices from 0
pub record ChainNumbers (k : ChainKind) (h : ChainModel) : Type 0 where
  pub breadth : h.breadth ≡ cells_of k
  pub stages : h.stages ≡ stages_of k
  pub width : (i : ℕ) → i < stages_of k → h.width (suc i) ≡ width_at k i
  pub distance : (i : ℕ) → i < stages_of k → h.distance (suc i) ≡ distance_at k i

-- a stage's record has the numbers of a code of its kind
pub record Makeable (s : Stage) : Type 0 where
  pub some_width : 1 ≤ s.width
  pub narrow : s.width ≤ 8
  pub some_places : 1 ≤ s.len
  pub short : s.len ≤ 4096
  pub even : allowed s.kind s.width ≡ true
  pub sized : fits_kind s.kind s.width s.len s.message_len ≡ true

-- a code has the cells, the message bits and the reach of a recipe's page
pub record PageNumbers (t : Table) (c : CodeModel) : Type 0 where
  pub cells : c.len ≡ page_cells t
  pub bits : c.message_len ≡ message_bits t
  pub reach : c.distance ≡ reach_of t

-- a chain and codes make the pile that a recipe describes
pub record PileDescribed (t : Table) (h : ChainModel) (cs : List CodeModel) : Type 0 where
  pub chain : ChainNumbers t.chain h
  pub fits : Fits h cs
  pub numbers : PageNumbers t (pile h cs)
