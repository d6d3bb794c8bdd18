use Rattle.media_laws.specs.Packed.{BitsPut}
use Rattle.media.specs.Lent.{Bytes}
use Rattle.media.proofs.packed.store.Given as goal

abbrev pub invariant-loop-i : goal.invariant-loop-i
invariant-loop-i l =
    record { put : BitsPut l.initial.bytes l.bytes l.first.value l.first.mark l.cells l.i; bytes : Bytes l.bytes }
