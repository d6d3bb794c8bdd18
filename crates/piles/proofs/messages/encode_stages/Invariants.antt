use Rattle.std.proofs.Common.{◌≡◌, ◌+◌, ◌++◌, map, drop}
use Rattle.pile_laws.specs.Build.{stage_words, total_bits}
use Rattle.pile_laws.specs.Fit.{EachLong}
use Rattle.pile_laws.specs.Flat.{words_in}
use Rattle.piles.proofs.messages.encode_stages.Given as goal

-- the words so far, and what is left of the codes and the message
abbrev pub invariant-loop-k : goal.invariant-loop-k
invariant-loop-k g l =
    let m = g.A.Code.model in
    (words_in l.columns l.k l.words ++ stage_words (map m (drop l.k l.codes)) (drop l.at l.message) ≡ stage_words (map m l.codes) l.message)
    × (l.at + total_bits (map m (drop l.k l.codes)) ≡ total_bits (map m l.codes))
    × EachLong l.columns (map m (drop l.k l.codes))
