-- Sums over the numbers below n, and how many of them pass a test. Assumes nothing.
use Rattle.std.specs.Prelude.{◌≡◌, ℕ, zero, suc, ◌+◌, ◌<◌, Bool, cond}

-- f 0 + .. + f (n - 1)
abbrev pub total : (ℕ → ℕ) → ℕ → ℕ
total f zero = 0
total f (suc n) = total f n + f n

abbrev pub count : (ℕ → Bool) → ℕ → ℕ
count test n = total (λ i. cond (test i) 1 0) n

-- f takes different values at different numbers below n
abbrev pub Injective : {A : Type 0} → ℕ → (ℕ → A) → Type 0
Injective n f = (i j : ℕ) → i < n → j < n → f i ≡ f j → i ≡ j
