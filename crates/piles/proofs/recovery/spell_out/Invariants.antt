use Rattle.std.proofs.Common.{◌≡◌, ◌*◌, take}
use Rattle.pile_laws.specs.Build.{spelled_out}
use Rattle.piles.proofs.recovery.spell_out.Given as goal

abbrev pub invariant-loop-i : goal.invariant-loop-i
invariant-loop-i l = take (l.i * l.width) l.bits ≡ spelled_out l.width (take l.i l.symbols)
