-- Why a pair that meets the key equation at every readable place shows which places are right. Assumes nothing.
use Rattle.std.proofs.Common.{◌≡◌, ℕ, ◌+◌, ◌-◌, ◌<◌, ◌≤◌, Bool, true, not, ◌&&◌, ◌≢◌, [], ◌∷◌, sym, ap, ◌∙◌, arith}
use native.Mathlib.Decide.{dec_lt}
use Rattle.std.proofs.lemmas.Bool.{and_parts, not-true, true≢false}
use Rattle.algebra.specs.Field.{Field, same}
use Rattle.algebra.specs.Places.{Polynomial, zeros}
use Rattle.algebra.specs.Ring.{𝟘, ◌⊕◌, ◌⊗◌}
use Rattle.algebra.specs.Sums.{Injective, count}
use Rattle.algebra.proofs.Field.{mul-zero, same_from_zero, zero_from_same, other_zero, same_true, eq_same}
use Rattle.algebra.proofs.Places.{polynomial_weaken, polynomial_add, polynomial_mul, zero_at_places}
use Rattle.algebra.proofs.Ring.{by_ring}
use Rattle.algebra.proofs.Sums.{count_mono, count_split}

module _ (F : Field) (place : ℕ → F.ring.carrier) (n : ℕ) (apart : Injective n place) (k : ℕ) (some : 1 ≤ k) (readable : ℕ → Bool) where
  open F.ring use {carrier, zero as 𝟎, add, mul}

  -- y was read; g is the interpolant and p the product of k readable places; q and e are a pair that meets the key equation;
  -- s is a codeword
  module _ (y g p q e s : ℕ → carrier) (b : ℕ)
      (poly_g : Polynomial F.ring place n k g) (poly_p : Polynomial F.ring place n (k + 1) p)
      (poly-q : Polynomial F.ring place n b q) (poly-e : Polynomial F.ring place n (b + 1) e)
      (poly-s : Polynomial F.ring place n k s)
      (key : (j : ℕ) → j < n → readable j ≡ true → mul (p j) (q j) ≡ mul (add (y j) (g j)) (e j))
      (near : b + k ≤ count (λ j. readable j && same F (y j) (s j)) n) where
    excess : ℕ → carrier
    excess j = add (mul (q j) (p j)) (mul (e j) (add (s j) (g j)))

    poly_excess : Polynomial F.ring place n (b + k) excess
    unfolding excess
    poly_excess =
        polynomial_add F.ring place n (λ j. mul (q j) (p j)) (λ j. mul (e j) (add (s j) (g j))) (b + k)
        (polynomial_weaken F.ring place n (b + (k + 1) - 1) (b + k) (λ j. mul (q j) (p j)) (omega arith) (polynomial_mul F.ring place n q p b (k + 1) (omega arith) poly-q poly_p))
        (polynomial_weaken F.ring place n (b + 1 + k - 1) (b + k) (λ j. mul (e j) (add (s j) (g j))) (omega arith) (polynomial_mul F.ring place n e (λ j. add (s j) (g j)) (b + 1) k some poly-e (polynomial_add F.ring place n s g k poly-s poly_g)))

    -- at a readable place it is e times the error there
    excess_readable : (j : ℕ) → j < n → readable j ≡ true → excess j ≡ mul (e j) (add (y j) (s j))
    unfolding excess
    excess_readable j l r =
        ap (λ c. add c (mul (e j) (add (s j) (g j)))) (F.ring.mul_comm (q j) (p j) ∙ key j l r)
        ∙ by_ring F.ring (y j ∷ g j ∷ e j ∷ s j ∷ []) (λ y g e s. ((y ⊕ g) ⊗ e ⊕ e ⊗ (s ⊕ g), e ⊗ (y ⊕ s))) tt

    excess_zero : (j : ℕ) → j < n → excess j ≡ 𝟎
    excess_zero = zero_at_places F place n apart (b + k) excess poly_excess enough
      where
        at : (j : ℕ) → j < n → (readable j && same F (y j) (s j)) ≡ true → same F (excess j) 𝟎 ≡ true
        at j l h =
            let t = and_parts (readable j) (same F (y j) (s j)) h in
            eq_same F (excess j) 𝟎
            (excess_readable j l t.0 ∙ ap (mul (e j)) (zero_from_same F.ring (y j) (s j) (same_true F (y j) (s j) t.1)) ∙ mul-zero F.ring (e j))

        enough : b + k ≤ zeros F n excess
        enough = omega (arith, near, count_mono (λ j. readable j && same F (y j) (s j)) (λ j. same F (excess j) 𝟎) n at)

    -- a readable place where e does not vanish is right
    pub right_where : (j : ℕ) → j < n → readable j ≡ true → e j ≢ 𝟎 → y j ≡ s j
    right_where j l r ne =
        same_from_zero F.ring (y j) (s j) (other_zero F (e j) (add (y j) (s j)) ne (sym (excess_readable j l r) ∙ excess_zero j l))

    -- the pair does not vanish at r, and the places that p does not vanish at are enough for q
    module _ (r : ℕ) (within : r < n) (alive : q r ≡ 𝟎 → e r ≡ 𝟎 → ⊥) (outside : b ≤ count (λ j. not (same F (p j) 𝟎)) n) where
      vanishing : ((j : ℕ) → j < n → e j ≡ 𝟎) → (j : ℕ) → j < n → q j ≡ 𝟎
      unfolding excess
      vanishing none = zero_at_places F place n apart b q poly-q enough
        where
          products : (j : ℕ) → j < n → mul (p j) (q j) ≡ 𝟎
          products j l =
              by_ring F.ring (p j ∷ q j ∷ s j ∷ g j ∷ []) (λ p q s g. (p ⊗ q, q ⊗ p ⊕ 𝟘 ⊗ (s ⊕ g))) tt
              ∙ ap (λ c. add (mul (q j) (p j)) (mul c (add (s j) (g j)))) (sym (none j l))
              ∙ excess_zero j l

          at : (j : ℕ) → j < n → not (same F (p j) 𝟎) ≡ true → same F (q j) 𝟎 ≡ true
          at j l h =
              eq_same F (q j) 𝟎
              (other_zero F (p j) (q j) (λ z. true≢false (sym (eq_same F (p j) 𝟎 z) ∙ not-true (same F (p j) 𝟎) h)) (products j l))

          enough : b ≤ zeros F n q
          enough = omega (arith, outside, count_mono (λ j. not (same F (p j) 𝟎)) (λ j. same F (q j) 𝟎) n at)

      pub few_blots : zeros F n e ≤ b
      few_blots = elim (dec_lt (zeros F n e) (b + 1)) [
        | yes h ↦ omega arith
        | no h ↦
            let none : (j : ℕ) → j < n → e j ≡ 𝟎 = zero_at_places F place n apart (b + 1) e poly-e (omega arith) in
            absurd (alive (vanishing none r within) (none r within))
      ]

      -- enough readable places are known to be right
      pub enough_right : b + k ≤ count readable n → k ≤ count (λ j. readable j && not (same F (e j) 𝟎)) n
      enough_right many =
          omega (
            arith,
            few_blots,
            count_split readable (λ j. same F (e j) 𝟎) n,
            count_mono (λ j. readable j && same F (e j) 𝟎) (λ j. same F (e j) 𝟎) n (λ j l h. (and_parts (readable j) (same F (e j) 𝟎) h).1),
          )
