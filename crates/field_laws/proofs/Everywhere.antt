-- A rule of all numbers below a bound, proved by one test that antt computes. Assumes nothing.
use Rattle.std.proofs.Common.{ℕ, zero, suc, ◌<◌, ◌≤◌, Bool, true, false, ◌&&◌, T, sym, subst, ⊎_elim, arith}
use Rattle.std.proofs.lemmas.Bool.{cases_eq}

-- the test passes at each number below n
abbrev pub every : ℕ → (ℕ → Bool) → Bool
every zero p = true
every (suc n) p = p n && every n p

pub both : (a b : Bool) → T (a && b) → T a × T b
both true b t = (tt, t)
both false b t = absurd t

pub at : (n : ℕ) (p : ℕ → Bool) → T (every n p) → (k : ℕ) → k < n → T (p k)
at zero p t k h = absurd (omega arith)
at (suc n) p t k h =
    let parts = both (p n) (every n p) t in
    ⊎_elim (λ e. subst (λ (x : ℕ). T (p x)) (sym e) parts.0) (λ apart. at n p parts.1 k (omega arith)) (cases_eq k n)

-- the same of each width of a field
pub each_width : (p : ℕ → Bool) → T (every 8 λ m. p (suc m)) → (m : ℕ) → 1 ≤ m → m ≤ 8 → T (p m)
each_width p t zero least most = absurd (omega arith)
each_width p t (suc m) least most = at 8 (λ n. p (suc n)) t m (omega arith)
