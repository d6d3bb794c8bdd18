use Rattle.std.proofs.Common.{◌≡◌, ◌+◌, ◌^◌, ◌≤◌, drop}
use Rattle.chains.specs.Bits.{bits_of}
use Rattle.chains.specs.ReedMuller.{counted}
use Rattle.chains.specs.Votes.{column, votes, check_sets}
use Rattle.chains.proofs.reed_muller.ReedMuller.vote.Given as goal

-- the votes so far and those of the sets that are left
abbrev pub invariant-loop-a : goal.invariant-loop-a
invariant-loop-a l =
    let n = 2 ^ l.self.r in
    let cells = bits_of n l.word in
    let marks = bits_of n l.blank in
    let left = check_sets n l.s (drop l.a (counted 0 n)) in
    (l.zeros ≤ l.a) × (l.ones ≤ l.a)
    × (l.zeros + votes 0 left cells marks ≡ votes 0 (column l.self.r l.s).checks cells marks)
    × (l.ones + votes 1 left cells marks ≡ votes 1 (column l.self.r l.s).checks cells marks)
