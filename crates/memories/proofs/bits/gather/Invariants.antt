use Rattle.std.proofs.Common.{◌≡◌, ℕ, ◌*◌, ◌<◌, get_or, drop}
use Rattle.memory_laws.specs.Payload.{byte_at}
use Rattle.memories.proofs.bits.gather.Given as goal

abbrev pub invariant-loop-i : goal.invariant-loop-i
invariant-loop-i l = (k : ℕ) → k < l.i → get_or l.payload k 0 ≡ byte_at (drop (8 * k) l.message)
