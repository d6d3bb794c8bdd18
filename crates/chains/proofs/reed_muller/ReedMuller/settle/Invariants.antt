use Rattle.std.proofs.Common.{◌≡◌, ◌-◌, ◌^◌, ◌<◌, ◌≤◌, take, drop}
use Rattle.chains.specs.Bits.{bits_of, spelled}
use Rattle.chains.specs.Votes.{columns, laid, settled}
use Rattle.chains.proofs.reed_muller.ReedMuller.settle.Given as goal

-- the bits so far are the first of all, and what is left of the columns settles the others
abbrev pub invariant-loop-t : goal.invariant-loop-t
invariant-loop-t l =
    let n = 2 ^ l.self.r in
    let columns = columns l.self.r in
    let marks = bits_of n l.blank in
    let all = settled (drop l.from columns) (bits_of n l.word) marks in
    (l.from ≤ l.t)
    × (l.rest < 2 ^ n)
    × (l.bits ≡ spelled (take (l.t - l.from) all))
    × (settled (drop l.t columns) (bits_of n l.rest) marks ≡ drop (l.t - l.from) all)
    × (laid (drop l.t columns) (drop (l.t - l.from) all) (bits_of n l.rest) ≡ laid (drop l.from columns) all (bits_of n l.word))
