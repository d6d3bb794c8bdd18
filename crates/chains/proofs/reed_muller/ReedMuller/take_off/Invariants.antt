use Rattle.std.proofs.Common.{◌≡◌, ◌^◌, ◌<◌, drop}
use Rattle.chains.specs.Bits.{bits_of}
use Rattle.chains.specs.Votes.{columns, laid}
use Rattle.chains.proofs.reed_muller.ReedMuller.take_off.Given as goal

-- what is left to lay gives the whole
abbrev pub invariant-loop-t : goal.invariant-loop-t
invariant-loop-t l =
    (l.rest < 2 ^ 2 ^ l.self.r)
    × (laid (drop l.t (columns l.self.r)) (drop l.t (bits_of l.row.count l.row.bits)) (bits_of (2 ^ l.self.r) l.rest) ≡ laid (columns l.self.r) (bits_of l.row.count l.row.bits) (bits_of (2 ^ l.self.r) l.word))
