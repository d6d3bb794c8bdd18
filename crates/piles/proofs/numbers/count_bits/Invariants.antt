use Rattle.std.proofs.Common.{◌≡◌, ◌+◌, ◌*◌, ◌≤◌, map, drop}
use Rattle.pile_laws.specs.Build.{total_bits}
use Rattle.piles.proofs.numbers.count_bits.Given as goal

abbrev pub invariant-loop-code : goal.invariant-loop-code
invariant-loop-code g l =
    (l.bits + total_bits (map g.A.Code.model (drop l.code-index l.codes)) ≡ total_bits (map g.A.Code.model l.codes))
    × (l.bits ≤ 32768 * l.code-index)
