-- A polynomial with as many different roots as coefficients vanishes everywhere. Assumes nothing.
use Rattle.std.proofs.Common.{◌≡◌, ℕ, zero, suc, ◌+◌, ◌<◌, ◌≤◌, true, ◌≢◌, List, [], ◌∷◌, length, sym, refl, ap, ◌∙◌, arith}
use native.Mathlib.Decide.{dec_lt}
use Rattle.algebra.specs.Field.{Ring, Field, same}
use Rattle.algebra.specs.Places.{zeros}
use Rattle.algebra.specs.Poly.{value, plus}
use Rattle.algebra.specs.Sums.{Injective}
use Rattle.algebra.proofs.Field.{mul-zero, same_from_zero, zero_from_same, other_zero, same_true, eq_same}
use Rattle.algebra.proofs.Poly.{value_plus, length_plus, root_factor}
use Rattle.algebra.proofs.Sums.{count_all, count_found, count_but_one}

module _ (F : Field) where
  open F.ring use {carrier, zero as 𝟎, add, mul}

  -- how many of the first n elements of x are roots of p
  abbrev pub roots : (x : ℕ → carrier) (n : ℕ) (p : List carrier) → ℕ
  roots x n p = zeros F n (λ i. value F.ring p (x i))

  module _ (x : ℕ → carrier) (n : ℕ) (apart : Injective n x) where
    -- p = (X + x r)·q has the roots of q and at most one more
    roots_of_factor : (p q : List carrier) (r : ℕ) → r < n →
        ((z : carrier) → value F.ring p z ≡ mul (add z (x r)) (value F.ring q z)) →
        roots x n p ≤ roots x n q + 1
    roots_of_factor p q r within factors =
        count_but_one (λ i. same F (value F.ring p (x i)) 𝟎) (λ i. same F (value F.ring q (x i)) 𝟎) n r other
      where
        other : (i : ℕ) → i < n → i ≢ r → same F (value F.ring p (x i)) 𝟎 ≡ true → same F (value F.ring q (x i)) 𝟎 ≡ true
        other i l new root =
            let nonzero : add (x i) (x r) ≢ 𝟎 = λ e. new (apart i r l within (same_from_zero F.ring (x i) (x r) e)) in
            let vanish : mul (add (x i) (x r)) (value F.ring q (x i)) ≡ 𝟎 = sym (factors (x i)) ∙ same_true F (value F.ring p (x i)) 𝟎 root in
            eq_same F (value F.ring q (x i)) 𝟎 (other_zero F (add (x i) (x r)) (value F.ring q (x i)) nonzero vanish)

    pub root_bound : (k : ℕ) (p : List carrier) → length p ≤ k → k ≤ roots x n p → (z : carrier) → value F.ring p z ≡ 𝟎
    root_bound zero [] short many z = refl
    root_bound zero (c ∷ p) short many z = absurd (omega arith)
    root_bound (suc k) p short many z =
        let first = count_found (λ i. same F (value F.ring p (x i)) 𝟎) n (omega arith) in
        let r = first.0 in
        let split = root_factor F.ring k p (x r) (omega arith) (same_true F (value F.ring p (x r)) 𝟎 first.2) in
        let q = split.0 in
        let enough : k ≤ roots x n q = omega (arith, roots_of_factor p q r first.1 split.2) in
        split.2 z ∙ ap (mul (add z (x r))) (root_bound k q split.1 enough z) ∙ mul-zero F.ring (add z (x r))

    -- one that is not zero everywhere has fewer roots than coefficients
    pub few_roots : (k : ℕ) (p : List carrier) → length p ≤ k → (z : carrier) → value F.ring p z ≢ 𝟎 → roots x n p < k
    few_roots k p short z nonzero =
        elim (dec_lt (roots x n p) k) [
          | yes h ↦ h
          | no h ↦ absurd (nonzero (root_bound k p short (omega arith) z))
        ]

  module _ (k : ℕ) (x : ℕ → carrier) (apart : Injective k x) where
    -- k different roots
    pub vanishes_everywhere : (p : List carrier) → length p ≤ k → ((i : ℕ) → i < k → value F.ring p (x i) ≡ 𝟎) → (z : carrier) → value F.ring p z ≡ 𝟎
    vanishes_everywhere p short vanish =
        let all : roots x k p ≡ k = count_all (λ i. same F (value F.ring p (x i)) 𝟎) k (λ i l. eq_same F (value F.ring p (x i)) 𝟎 (vanish i l)) in
        root_bound x k apart k p short (omega arith)

    pub agree_everywhere : (p q : List carrier) → length p ≤ k → length q ≤ k →
        ((i : ℕ) → i < k → value F.ring p (x i) ≡ value F.ring q (x i)) →
        (z : carrier) → value F.ring p z ≡ value F.ring q z
    agree_everywhere p q short-p short-q agree z =
        same_from_zero R (value R p z) (value R q z) (sym (value_plus R p q z) ∙ vanishes_everywhere (plus R p q) (length_plus R k p q short-p short-q) vanish z)
      where
        R : Ring
        R = F.ring

        vanish : (i : ℕ) → i < k → value R (plus R p q) (x i) ≡ 𝟎
        vanish i l = value_plus R p q (x i) ∙ zero_from_same R (value R p (x i)) (value R q (x i)) (agree i l)
