use Rattle.std.proofs.Common.{◌≡◌, ℕ, ◌<◌, get_or}
use Rattle.media_laws.specs.Model.{value_of, mark_of}
use Rattle.media_laws.specs.Packed.{cell_at}
use Rattle.media.proofs.packed.show.Given as goal

abbrev pub invariant-loop-i : goal.invariant-loop-i
invariant-loop-i l =
    ((k : ℕ) → k < l.i → get_or l.cells k 0 ≡ value_of (cell_at l.bytes l.first.value l.first.mark k))
    × ((k : ℕ) → k < l.i → get_or l.marks k 0 ≡ mark_of (cell_at l.bytes l.first.value l.first.mark k))
