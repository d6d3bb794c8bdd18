-- The cells and the marks of a reading of n cells. Assumes nothing.
use Rattle.std.proofs.Common.{◌≡◌, ℕ, ◌<◌, List, length, sym, ◌∙◌}
use Rattle.std.specs.List.{All}
use Rattle.std.proofs.lemmas.List.Elements.{recursion_from_All, All-from_recursion}
use Rattle.chains.specs.declared.reading.Reading.{Reading}
use Rattle.chains.specs.Model.{Cells}

pub cells_of : (n : ℕ) (x : Reading) → length x.cells.now ≡ n → Cells n x.cells.now
cells_of n x e = (e, recursion_from_All (λ b. b < 2) x.cells.now x.cells_small)

pub marks_of : (n : ℕ) (x : Reading) → length x.cells.now ≡ n → Cells n x.marks.now
marks_of n x e = (x.paired ∙ e, recursion_from_All (λ b. b < 2) x.marks.now x.marks_small)

-- cells and marks that were checked make a reading
pub binary_rows : (n : ℕ) (cells marks : List ℕ) → Cells n cells → Cells n marks → (length marks ≡ length cells) × All (λ b. b < 2) cells × All (λ b. b < 2) marks
binary_rows n cells marks fc fm = (fm.0 ∙ sym fc.0, All-from_recursion (λ b. b < 2) cells fc.1, All-from_recursion (λ b. b < 2) marks fm.1)
