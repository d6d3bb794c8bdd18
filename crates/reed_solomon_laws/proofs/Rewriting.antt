-- An array that a rule is written over, place by place. Assumes nothing.
use Rattle.std.proofs.Common.{◌≡◌, ℕ, ◌<◌, ◌≤◌, List, get_or}

-- the rule stands at the places below i, and the others are as they were
abbrev pub Rewritten : (old new : List ℕ) (rule : ℕ → ℕ) → ℕ → Type 0
Rewritten old new rule i = ((j : ℕ) → j < i → get_or new j 0 ≡ rule j) × ((j : ℕ) → i ≤ j → get_or new j 0 ≡ get_or old j 0)
