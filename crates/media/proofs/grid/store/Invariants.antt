use Rattle.std.proofs.Common.{◌≡◌, take}
use Rattle.media_laws.specs.Grid.{put_bytes}
use Rattle.media.proofs.grid.store.Given as goal

abbrev pub invariant-loop-i : goal.invariant-loop-i
invariant-loop-i l = l.bytes ≡ put_bytes l.initial.bytes (take l.i l.cells)
