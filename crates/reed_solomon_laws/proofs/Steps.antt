-- One place more in the key equation. Assumes nothing.
use Rattle.std.proofs.Common.{◌≡◌, ℕ, ◌+◌, ◌<◌, ◌≤◌, ◌≢◌, ◌⊎◌, [], ◌∷◌, sym, ap, ◌∙◌, subst, ap₂, inl, inr}
use Rattle.algebra.specs.Field.{Field}
use Rattle.algebra.specs.Places.{Polynomial}
use Rattle.algebra.specs.Ring.{𝟘, 𝟙, ◌⊕◌, ◌⊗◌}
use Rattle.algebra.specs.Sums.{Injective}
use Rattle.algebra.proofs.Field.{mul-zero, zero-mul, same_from_zero, mul_ne_zero}
use Rattle.algebra.proofs.Places.{polynomial_same, polynomial_weaken, polynomial_zero, polynomial_constant, polynomial_add, polynomial_scale, polynomial_root}
use Rattle.algebra.proofs.Ring.{by_ring}
use Rattle.reed_solomon_laws.specs.KeyEquation.{Pair, gap, cross, combined, rooted}

module _ (F : Field) (place : ℕ → F.ring.carrier) (n : ℕ) (t : ℕ → F.ring.carrier) where
  open F.ring use {carrier, zero as 𝟎, one, add, mul}

  -- the same values by another name
  pub pair_same : (P : ℕ → Type 0) (q e q' e' : ℕ → carrier) (b c : ℕ) →
      ((j : ℕ) → j < n → q j ≡ q' j) → ((j : ℕ) → j < n → e j ≡ e' j) →
      Pair F place n t P q e b c → Pair F place n t P q' e' b c
  pair_same P q e q' e' b c sq se s = record {
    top = polynomial_same F.ring place n b q q' s.top sq;
    bottom = polynomial_same F.ring place n c e e' s.bottom se;
    meets = λ j l p. sym (sq j l) ∙ s.meets j l p ∙ ap (mul (t j)) (se j l);
  }

  pub pair_fewer : (P Q : ℕ → Type 0) (q e : ℕ → carrier) (b c : ℕ) → ((j : ℕ) → j < n → Q j → P j) → Pair F place n t P q e b c → Pair F place n t Q q e b c
  pair_fewer P Q q e b c h s = record { top = s.top; bottom = s.bottom; meets = λ j l p. s.meets j l (h j l p) }

  -- the pivot, multiplied by X + x, meets the equation at x too
  pub pivot_more : (P : ℕ → Type 0) (q e : ℕ → carrier) (b c x : ℕ) → Pair F place n t P q e b c → Pair F place n t (λ j. P j ⊎ (j ≡ x)) (rooted F place x q) (rooted F place x e) (b + 1) (c + 1)
  pivot_more P q e b c x s = record {
    top = polynomial_root F.ring place n b (place x) q s.top;
    bottom = polynomial_root F.ring place n c (place x) e s.bottom;
    meets = λ j l. elim [
      | inl p ↦ ap (mul (add (place j) (place x))) (s.meets j l p)
          ∙ by_ring F.ring (add (place j) (place x) ∷ t j ∷ e j ∷ []) (λ r t e. (r ⊗ (t ⊗ e), t ⊗ (r ⊗ e))) tt
      | inr h ↦ let z : add (place j) (place x) ≡ 𝟎 = ap (λ i. add (place i) (place x)) h ∙ F.ring.add_self (place x) in
          ap (λ r. mul r (q j)) z ∙ zero-mul F.ring (q j)
          ∙ sym (ap (λ r. mul (t j) (mul r (e j))) z ∙ ap (mul (t j)) (zero-mul F.ring (e j)) ∙ mul-zero F.ring (t j))
    ];
  }

  -- a multiple of an array is short if the multiplier is zero, or the array is
  multiple_short : (d : carrier) (v : ℕ → carrier) (b c : ℕ) → (d ≡ 𝟎) ⊎ (b ≤ c) → Polynomial F.ring place n b v → Polynomial F.ring place n c (λ j. mul d (v j))
  multiple_short d v b c (inl z) p =
      polynomial_same F.ring place n c (λ j. 𝟎) (λ j. mul d (v j)) (polynomial_zero F.ring place n c) (λ j l. sym (ap (λ r. mul r (v j)) z ∙ zero-mul F.ring (v j)))
  multiple_short d v b c (inr h) p =
      polynomial_weaken F.ring place n b c (λ j. mul d (v j)) h (polynomial_scale F.ring place n b d v p)

  -- the other pair, combined with the pivot, meets the equation at x too
  pub other_more : (P : ℕ → Type 0) (q e u w : ℕ → carrier) (b c b' c' x : ℕ) →
      Pair F place n t P q e b c → Pair F place n t P u w b' c' →
      (gap F place n t u w x ≡ 𝟎) ⊎ ((b ≤ b') × (c ≤ c')) →
      Pair F place n t (λ j. P j ⊎ (j ≡ x))
      (combined F (gap F place n t q e x) u (gap F place n t u w x) q)
      (combined F (gap F place n t q e x) w (gap F place n t u w x) e) b' c'
  other_more P q e u w b c b' c' x pivot other fits = record {
    top = polynomial_add F.ring place n (λ j. mul d (u j)) (λ j. mul d' (q j)) b'
        (polynomial_scale F.ring place n b' d u other.top)
        (multiple_short d' q b b' (elim fits [ inl z ↦ inl z | inr h ↦ inr h.0 ]) pivot.top);
    bottom = polynomial_add F.ring place n (λ j. mul d (w j)) (λ j. mul d' (e j)) c'
        (polynomial_scale F.ring place n c' d w other.bottom)
        (multiple_short d' e c c' (elim fits [ inl z ↦ inl z | inr h ↦ inr h.1 ]) pivot.bottom);
    meets = λ j l. elim [ inl p ↦ kept j l p | inr h ↦ subst (λ i. combined F d u d' q i ≡ mul (t i) (combined F d w d' e i)) (sym h) here ];
  }
    where
      d : carrier
      d = gap F place n t q e x

      d' : carrier
      d' = gap F place n t u w x

      kept : (j : ℕ) → j < n → P j → combined F d u d' q j ≡ mul (t j) (combined F d w d' e j)
      kept j l p =
          ap₂ (λ r s. add (mul d r) (mul d' s)) (other.meets j l p) (pivot.meets j l p)
          ∙ by_ring F.ring (d ∷ d' ∷ t j ∷ w j ∷ e j ∷ []) (λ d d' t w e. (d ⊗ (t ⊗ w) ⊕ d' ⊗ (t ⊗ e), t ⊗ (d ⊗ w ⊕ d' ⊗ e))) tt

      here : combined F d u d' q x ≡ mul (t x) (combined F d w d' e x)
      here =
          by_ring F.ring (q x ∷ e x ∷ u x ∷ w x ∷ t x ∷ [])
          (λ q e u w t. ((q ⊕ t ⊗ e) ⊗ u ⊕ (u ⊕ t ⊗ w) ⊗ q, t ⊗ ((q ⊕ t ⊗ e) ⊗ w ⊕ (u ⊕ t ⊗ w) ⊗ e))) tt

  -- where both pairs meet the equation they are not independent
  pub cross_gaps : (q e u w : ℕ → carrier) (x : ℕ) → cross F q e u w x ≡ add (mul (w x) (gap F place n t q e x)) (mul (e x) (gap F place n t u w x))
  cross_gaps q e u w x =
      by_ring F.ring (q x ∷ e x ∷ u x ∷ w x ∷ t x ∷ []) (λ q e u w t. (q ⊗ w ⊕ u ⊗ e, w ⊗ (q ⊕ t ⊗ e) ⊕ e ⊗ (u ⊕ t ⊗ w))) tt

  pub gap_somewhere : (q e u w : ℕ → carrier) (x : ℕ) → cross F q e u w x ≢ 𝟎 → gap F place n t q e x ≡ 𝟎 → gap F place n t u w x ≢ 𝟎
  gap_somewhere q e u w x ne z z' =
      ne (cross_gaps q e u w x ∙ ap₂ (λ r s. add (mul (w x) r) (mul (e x) s)) z z' ∙ by_ring F.ring (w x ∷ e x ∷ []) (λ w e. (w ⊗ 𝟘 ⊕ e ⊗ 𝟘, 𝟘)) tt)

  -- a step multiplies what is independent by the pivot's gap and X + x
  cross_next : (d d' : carrier) (q e u w : ℕ → carrier) (x j : ℕ) →
      cross F (rooted F place x q) (rooted F place x e) (combined F d u d' q) (combined F d w d' e) j ≡ mul (mul (add (place j) (place x)) d) (cross F q e u w j)
  cross_next d d' q e u w x j =
      by_ring F.ring (add (place j) (place x) ∷ d ∷ d' ∷ q j ∷ e j ∷ u j ∷ w j ∷ [])
      (λ r d d' q e u w. ((r ⊗ q) ⊗ (d ⊗ w ⊕ d' ⊗ e) ⊕ (d ⊗ u ⊕ d' ⊗ q) ⊗ (r ⊗ e), (r ⊗ d) ⊗ (q ⊗ w ⊕ u ⊗ e))) tt

  pub cross_more : Injective n place → (d d' : carrier) (q e u w : ℕ → carrier) (x j : ℕ) → x < n → j < n → (j ≡ x → ⊥) → d ≢ 𝟎 → cross F q e u w j ≢ 𝟎 →
      cross F (rooted F place x q) (rooted F place x e) (combined F d u d' q) (combined F d w d' e) j ≢ 𝟎
  cross_more apart d d' q e u w x j lx lj other nd nc z =
      mul_ne_zero F (mul (add (place j) (place x)) d) (cross F q e u w j)
      (mul_ne_zero F (add (place j) (place x)) d (λ h. other (apart j x lj lx (same_from_zero F.ring (place j) (place x) h))) nd)
      nc
      (sym (cross_next d d' q e u w x j) ∙ z)

  pub cross_turned : (q e u w : ℕ → carrier) (j : ℕ) → cross F q e u w j ≡ cross F u w q e j
  cross_turned q e u w j = F.ring.add_comm (mul (q j) (w j)) (mul (u j) (e j))

  -- at the start
  pub first_pair : (P : ℕ → Type 0) → ((j : ℕ) → P j → ⊥) → Pair F place n t P (λ j. one) (λ j. 𝟎) 1 1
  first_pair P none = record {
    top = polynomial_constant F.ring place n one;
    bottom = polynomial_zero F.ring place n 1;
    meets = λ j l p. absurd (none j p);
  }

  pub second_pair : (P : ℕ → Type 0) → ((j : ℕ) → P j → ⊥) → Pair F place n t P (λ j. 𝟎) (λ j. one) 0 1
  second_pair P none = record {
    top = polynomial_zero F.ring place n 0;
    bottom = polynomial_constant F.ring place n one;
    meets = λ j l p. absurd (none j p);
  }

  pub cross_first : (j : ℕ) → cross F (λ j. one) (λ j. 𝟎) (λ j. 𝟎) (λ j. one) j ≢ 𝟎
  cross_first j z = F.zero_one (sym z ∙ by_ring F.ring [] (𝟙 ⊗ 𝟙 ⊕ 𝟘 ⊗ 𝟘, 𝟙) tt)
