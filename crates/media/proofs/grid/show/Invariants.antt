use Rattle.std.proofs.Common.{◌≡◌, map, take}
use Rattle.media_laws.specs.Grid.{state_of}
use Rattle.media_laws.specs.Model.{value_of, mark_of}
use Rattle.media.proofs.grid.show.Given as goal

abbrev pub invariant-loop-i : goal.invariant-loop-i
invariant-loop-i l =
    (take l.i l.cells ≡ map (λ b. value_of (state_of b)) (take l.i l.bytes))
    × (take l.i l.marks ≡ map (λ b. mark_of (state_of b)) (take l.i l.bytes))
