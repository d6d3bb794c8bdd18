-- The rule of a table, shown at each entry by one test that antt computes over all of them. Assumes nothing.
use Rattle.std.proofs.Common.{◌≡◌, ℕ, zero, suc, ◌+◌, ◌<◌, Bool, true, false, ◌&&◌, List, [], ◌∷◌, length, get_or, sym, refl, ◌∙◌, subst, le_of_suc-le-suc, not-suc-le-zero, add-zero, add-suc, suc-add, zero-add}

-- the test passes at each entry and its index, counted from i
abbrev pub passes_all : {X : Type 0} → (ℕ → X → Bool) → ℕ → List X → Bool
passes_all test i [] = true
passes_all test i (x ∷ xs) = test i x && passes_all test (suc i) xs

left : (a b : Bool) → (a && b) ≡ true → a ≡ true
left true b e = refl
left false b e = e

right : (a b : Bool) → (a && b) ≡ true → b ≡ true
right true b e = e
right false b e = cc

from : {X : Type 0} (test : ℕ → X → Bool) (xs : List X) (i : ℕ) → passes_all test i xs ≡ true → (k : ℕ) (d : X) → k < length xs → test (i + k) (get_or xs k d) ≡ true
from test [] i t k d h = absurd (not-suc-le-zero h)
from test (x ∷ xs) i t zero d h = rw (add-zero i) (left (test i x) (passes_all test (suc i) xs) t)
from test (x ∷ xs) i t (suc k) d h =
    subst (λ (m : ℕ). test m (get_or xs k d) ≡ true) (suc-add i k ∙ sym (add-suc i k))
    (from test xs (suc i) (right (test i x) (passes_all test (suc i) xs) t) k d (le_of_suc-le-suc h))

pub entry_passes : {X : Type 0} (test : ℕ → X → Bool) (xs : List X) → passes_all test 0 xs ≡ true → (k : ℕ) (d : X) → k < length xs → test k (get_or xs k d) ≡ true
entry_passes test xs t k d h = subst (λ (m : ℕ). test m (get_or xs k d) ≡ true) (zero-add k) (from test xs 0 t k d h)
