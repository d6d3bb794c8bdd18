use Rattle.std.proofs.Common.{◌≡◌, ℕ, ◌+◌, ◌<◌, ◌≤◌, length, get_or, drop}
use Rattle.codes.specs.Kinds.{readable_count}
use Rattle.codes.proofs.repetition.Damaged.count_symbols.Given as goal

-- what is counted and what is left make up the whole
abbrev pub invariant-loop-i : goal.invariant-loop-i
invariant-loop-i l =
    (length l.counts ≡ 256)
    × ((x : ℕ) → x < 256 → get_or l.counts x 0 + readable_count x (drop l.i l.self.word.now) (drop l.i l.self.marks.now) ≡ readable_count x l.self.word.now l.self.marks.now)
    × ((x : ℕ) → x < 256 → get_or l.counts x 0 ≤ l.i)
