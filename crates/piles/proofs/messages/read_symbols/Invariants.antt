use Rattle.std.proofs.Common.{◌≡◌, ℕ, ◌*◌, ◌<◌, get_or, take, drop}
use Rattle.chains.specs.Bits.{spelled}
use Rattle.piles.proofs.messages.read_symbols.Given as goal

abbrev pub invariant-loop-i : goal.invariant-loop-i
invariant-loop-i l = (k : ℕ) → k < l.i → get_or l.symbols k 0 ≡ spelled (take l.width (drop (k * l.width) l.bits))
