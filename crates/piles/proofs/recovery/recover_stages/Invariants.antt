use Rattle.std.proofs.Common.{◌≡◌, ◌+◌, map, take, drop}
use Rattle.pile_laws.specs.Build.{total_bits}
use Rattle.pile_laws.specs.Fit.{EachLong}
use Rattle.pile_laws.specs.Flat.{words_in}
use Rattle.pile_laws.proofs.Recovery.{MessagesOf}
use Rattle.piles.proofs.recovery.recover_stages.Given as goal

-- the messages so far, and what is left of the codes
abbrev pub invariant-loop-k : goal.invariant-loop-k
invariant-loop-k g l =
    let m = g.A.Code.model in
    MessagesOf (map m (take l.k l.codes)) (words_in l.columns l.k l.words) (take l.at l.bits)
    × (l.at + total_bits (map m (drop l.k l.codes)) ≡ total_bits (map m l.codes))
    × EachLong l.columns (map m (drop l.k l.codes))
