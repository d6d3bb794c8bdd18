use Rattle.std.proofs.Common.{◌≡◌, length, take}
use Rattle.chains.specs.Bits.{spelled}
use Rattle.chains.specs.ReedMuller.{muller_widths, row_bits}
use Rattle.chains.proofs.reed_muller.ReedMuller.join.Given as goal

abbrev pub invariant-loop-i : goal.invariant-loop-i
invariant-loop-i l =
    let bits = row_bits (muller_widths l.self.r) (take l.i l.labels) in
    (l.bits ≡ spelled bits) × (l.count ≡ length bits)
