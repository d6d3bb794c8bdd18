use Rattle.std.proofs.Common.{◌≡◌, length, take}
use Rattle.memory_laws.specs.Payload.{carrying}
use Rattle.memories.proofs.bits.spread.Given as goal

abbrev pub invariant-loop-i : goal.invariant-loop-i
invariant-loop-i l = l.message ≡ carrying (length l.initial.message) (take l.i l.payload)
