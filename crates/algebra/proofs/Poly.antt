-- Values and lengths of sums, multiples and products of polynomials; division by X + x. Assumes nothing.
use Rattle.std.proofs.Common.{◌≡◌, ℕ, suc, ◌+◌, ◌-◌, ◌≤◌, List, [], ◌∷◌, length, sym, refl, ap, ◌∙◌, ap₂, arith}
use lib.ListN.{length-map}
use Rattle.algebra.specs.Field.{Ring}
use Rattle.algebra.specs.Poly.{value, plus, scaled, times, with_root, quotient}
use Rattle.algebra.specs.Ring.{𝟘, ◌⊕◌, ◌⊗◌}
use Rattle.algebra.proofs.Field.{mul-zero, zero-mul, add-zero}
use Rattle.algebra.proofs.Ring.{by_ring}

module _ (R : Ring) where
  open R use {carrier, zero, add, mul}

  pub value_plus : (p q : List carrier) (z : carrier) → value R (plus R p q) z ≡ add (value R p z) (value R q z)
  value_plus [] q z = sym (R.zero-add (value R q z))
  value_plus (a ∷ p) [] z = sym (add-zero R (value R (a ∷ p) z))
  value_plus (a ∷ p) (b ∷ q) z =
      ap (λ s. add (add a b) (mul z s)) (value_plus p q z)
      ∙ by_ring R (a ∷ b ∷ z ∷ value R p z ∷ value R q z ∷ [])
      (λ a b z p q. ((a ⊕ b) ⊕ z ⊗ (p ⊕ q), (a ⊕ z ⊗ p) ⊕ (b ⊕ z ⊗ q)))
      tt

  pub value_scaled : (c : carrier) (p : List carrier) (z : carrier) → value R (scaled R c p) z ≡ mul c (value R p z)
  value_scaled c [] z = sym (mul-zero R c)
  value_scaled c (a ∷ p) z =
      ap (λ s. add (mul c a) (mul z s)) (value_scaled c p z)
      ∙ by_ring R (c ∷ a ∷ z ∷ value R p z ∷ []) (λ c a z p. (c ⊗ a ⊕ z ⊗ (c ⊗ p), c ⊗ (a ⊕ z ⊗ p))) tt

  pub value_times : (p q : List carrier) (z : carrier) → value R (times R p q) z ≡ mul (value R p z) (value R q z)
  value_times [] q z = sym (zero-mul R (value R q z))
  value_times (a ∷ p) q z =
      value_plus (scaled R a q) (zero ∷ times R p q) z
      ∙ ap₂ (λ s t. add s (add zero (mul z t))) (value_scaled a q z) (value_times p q z)
      ∙ by_ring R (a ∷ z ∷ value R p z ∷ value R q z ∷ []) (λ a z p q. (a ⊗ q ⊕ (𝟘 ⊕ z ⊗ (p ⊗ q)), (a ⊕ z ⊗ p) ⊗ q)) tt

  pub value_with_root : (x : carrier) (p : List carrier) (z : carrier) → value R (with_root R x p) z ≡ mul (add z x) (value R p z)
  value_with_root x p z =
      value_plus (scaled R x p) (zero ∷ p) z
      ∙ ap (λ s. add s (add zero (mul z (value R p z)))) (value_scaled x p z)
      ∙ by_ring R (x ∷ z ∷ value R p z ∷ []) (λ x z p. (x ⊗ p ⊕ (𝟘 ⊕ z ⊗ p), (z ⊕ x) ⊗ p)) tt

  pub length_plus : (k : ℕ) (p q : List carrier) → length p ≤ k → length q ≤ k → length (plus R p q) ≤ k
  length_plus k [] q hp hq = hq
  length_plus k (a ∷ p) [] hp hq = hp
  length_plus k (a ∷ p) (b ∷ q) hp hq =
      let ih : length (plus R p q) ≤ k - 1 = length_plus (k - 1) p q (omega arith) (omega arith) in
      omega arith

  pub length_scaled : (c : carrier) (p : List carrier) → length (scaled R c p) ≡ length p
  length_scaled c p = length-map p (mul c)

  pub length_times : (j k : ℕ) (p q : List carrier) → length p ≤ j → length q ≤ k → 1 ≤ k → length (times R p q) ≤ j + k - 1
  length_times j k [] q hp hq hk = omega arith
  length_times j k (a ∷ p) q hp hq hk =
      let ih : length (times R p q) ≤ (j - 1) + k - 1 = length_times (j - 1) k p q (omega arith) hq hk in
      length_plus (j + k - 1) (scaled R a q) (zero ∷ times R p q) (omega (arith, length_scaled a q)) (omega arith)

  pub length_with_root : (k : ℕ) (x : carrier) (p : List carrier) → length p ≤ k → length (with_root R x p) ≤ k + 1
  length_with_root k x p h =
      length_plus (k + 1) (scaled R x p) (zero ∷ p) (omega (arith, length_scaled x p)) (omega arith)

  pub length_quotient : (x : carrier) (p : List carrier) → length (quotient R x p) ≡ length p
  length_quotient x [] = refl
  length_quotient x (d ∷ p) = ap suc (length_quotient x p)

  value_quotient : (x c : carrier) (p : List carrier) (z : carrier) →
      value R (c ∷ p) z ≡ add (mul (add z x) (value R (quotient R x p) z)) (value R (c ∷ p) x)
  value_quotient x c [] z =
      by_ring R (x ∷ c ∷ z ∷ []) (λ x c z. (c ⊕ z ⊗ 𝟘, (z ⊕ x) ⊗ 𝟘 ⊕ (c ⊕ x ⊗ 𝟘))) tt
  value_quotient x c (d ∷ p) z =
      ap (λ s. add c (mul z s)) (value_quotient x d p z)
      ∙ by_ring R (x ∷ c ∷ z ∷ value R (quotient R x p) z ∷ value R (d ∷ p) x ∷ [])
      (λ x c z q w. (c ⊕ z ⊗ ((z ⊕ x) ⊗ q ⊕ w), (z ⊕ x) ⊗ (w ⊕ z ⊗ q) ⊕ (c ⊕ x ⊗ w)))
      tt

  -- p = (X + x)·q + p(x), with q one coefficient shorter
  pub synthetic_division : (k : ℕ) (p : List carrier) (x : carrier) → length p ≤ k + 1 →
      (q : List carrier) × (length q ≤ k) × ((z : carrier) → value R p z ≡ add (mul (add z x) (value R q z)) (value R p x))
  synthetic_division k [] x h =
      ([], omega arith, λ z. by_ring R (x ∷ z ∷ []) (λ x z. (𝟘, (z ⊕ x) ⊗ 𝟘 ⊕ 𝟘)) tt)
  synthetic_division k (c ∷ p) x h = (quotient R x p, omega (arith, length_quotient x p), value_quotient x c p)

  -- a root x of p splits off the factor X + x
  pub root_factor : (k : ℕ) (p : List carrier) (x : carrier) → length p ≤ k + 1 → value R p x ≡ zero →
      (q : List carrier) × (length q ≤ k) × ((z : carrier) → value R p z ≡ mul (add z x) (value R q z))
  root_factor k p x short root = (q, divided.1, factors)
    where
      divided : (q : List carrier) × (length q ≤ k) × ((z : carrier) → value R p z ≡ add (mul (add z x) (value R q z)) (value R p x))
      divided = synthetic_division k p x short

      q : List carrier
      q = divided.0

      factors : (z : carrier) → value R p z ≡ mul (add z x) (value R q z)
      factors z = divided.2 z ∙ ap (add (mul (add z x) (value R q z))) root ∙ add-zero R (mul (add z x) (value R q z))
