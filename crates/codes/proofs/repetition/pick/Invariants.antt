use Rattle.std.proofs.Common.{ℕ, ◌<◌, ◌≤◌, length, get_or}
use Rattle.codes.proofs.repetition.pick.Given as goal

-- the best so far is the least of those whose count none before `symbol` exceeds
abbrev pub invariant-loop-symbol : goal.invariant-loop-symbol
invariant-loop-symbol l =
    (l.best < length l.counts)
    × ((x : ℕ) → x < l.symbol → get_or l.counts x 0 ≤ get_or l.counts l.best 0)
    × ((x : ℕ) → x < l.best → get_or l.counts x 0 < get_or l.counts l.best 0)
    × (l.best ≤ l.symbol)
