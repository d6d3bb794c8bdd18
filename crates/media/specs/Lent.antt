-- What a medium over lent bytes means, and when it is refused. Assumes nothing.
use Rattle.std.specs.Prelude.{ℕ, ◌*◌, ◌<◌, List, Option}
use Rattle.std.specs.List.{AllByRecursion}
use Rattle.words.specs.declared.fault.Fault.{Fault}
use Rattle.media_laws.specs.Grid.{grid, GridFits}
use Rattle.media_laws.specs.Lent.{lent_refusal}
use Rattle.media_laws.specs.Model.{MediumModel}
use Rattle.media_laws.specs.Packed.{packed, row_bytes, PackedFits}
use Rattle.media.specs.declared.grid.Grid.{Grid}
use Rattle.media.specs.declared.packed.Packed.{Packed}

abbrev pub grid_of : Grid → MediumModel
grid_of g = grid g.bytes.now g.pages g.breadth

abbrev pub GridSound : Grid → Type 0
GridSound g = GridFits g.bytes.now g.pages g.breadth

abbrev pub grid_refusal : Grid → Option Fault
grid_refusal g = lent_refusal g.pages g.breadth (g.pages * g.breadth) g.bytes.now

abbrev pub packed_of : Packed → MediumModel
packed_of k = packed k.bytes.now k.pages k.breadth

abbrev pub PackedSound : Packed → Type 0
PackedSound k = PackedFits k.bytes.now k.pages k.breadth

abbrev pub packed_refusal : Packed → Option Fault
packed_refusal k = lent_refusal k.pages k.breadth (k.pages * (2 * row_bytes k.breadth)) k.bytes.now

-- each is a byte
abbrev pub Bytes : List ℕ → Type 0
Bytes xs = AllByRecursion (λ x. x < 256) xs
