-- Each step of Newton's interpolation, and that just one polynomial of k coefficients takes given symbols at k places.
-- Assumes nothing.
use Rattle.std.proofs.Common.{◌≡◌, ℕ, zero, suc, ◌+◌, ◌<◌, ◌⊎◌, ◌↔◌, sym, refl, ap, ◌∙◌, subst, inl, inr, add-one, arith}
use native.Mathlib.Decide.{dec_lt}
use Rattle.algebra.specs.Field.{Field}
use Rattle.algebra.specs.Newton.{Newton, Among, correction, next_interpolant, next_product}
use Rattle.algebra.specs.Places.{Polynomial}
use Rattle.algebra.specs.Sums.{Injective}
use Rattle.algebra.proofs.Field.{add-zero, mul-zero, zero-mul, add_add, same_from_zero, no_zero_divisors, mul_inv_mul}
use Rattle.algebra.proofs.Places.{
  polynomial_same,
  polynomial_weaken,
  polynomial_zero,
  polynomial_constant,
  polynomial_add,
  polynomial_scale,
  polynomial_root,
}

-- where the product vanishes, nothing changes
pub newton_keeps : (F : Field) (y v p : ℕ → F.ring.carrier) (x j : ℕ) → p j ≡ F.ring.zero → next_interpolant F y v p x j ≡ v j
newton_keeps F y v p x j e =
    ap (λ t. F.ring.add (v j) (F.ring.mul (correction F y v p x) t)) e
    ∙ ap (F.ring.add (v j)) (mul-zero F.ring (correction F y v p x))
    ∙ add-zero F.ring (v j)

module _ (choice : ℕ → ℕ) (k : ℕ) where
  pub among_more : (j : ℕ) → (Among choice k j ⊎ (j ≡ choice k)) ↔ Among choice (k + 1) j
  among_more j = (elim [ inl h ↦ (h.0, omega arith, h.2) | inr e ↦ (k, omega arith, sym e) ], back)
    where
      back : Among choice (k + 1) j → Among choice k j ⊎ (j ≡ choice k)
      back h = elim (dec_lt h.0 k) [
        | yes below ↦ inl (h.0, below, h.2)
        | no past ↦ let last : h.0 ≡ k = omega arith in inr (sym h.2 ∙ ap choice last)
      ]

  pub not_among : Injective (k + 1) choice → ¬ Among choice k (choice k)
  not_among different h = omega (arith, h.1, different h.0 k (omega arith) (omega arith) h.2)

module _ (F : Field) (place : ℕ → F.ring.carrier) (n : ℕ) where
  open F.ring use {carrier, zero as 𝟎, one, add, mul}

  -- nothing is chosen
  pub newton_none : (C : ℕ → Type 0) (y : ℕ → carrier) → ((j : ℕ) → ¬ C j) → Newton F place n C y 0 (λ j. 𝟎) (λ j. one)
  newton_none C y none = record {
    interpolant = polynomial_zero F.ring place n 0;
    product = polynomial_constant F.ring place n one;
    takes = λ j l c. absurd (none j c);
    vanishes = λ j l c. absurd (none j c);
    only = λ j l e. absurd (F.zero_one (sym e));
  }

  -- the same choice and the same values, said in another way
  pub newton_same : (C D : ℕ → Type 0) (y : ℕ → carrier) (k : ℕ) (v w p q : ℕ → carrier) →
      ((j : ℕ) → j < n → C j ↔ D j) → ((j : ℕ) → j < n → v j ≡ w j) → ((j : ℕ) → j < n → p j ≡ q j) →
      Newton F place n C y k v p → Newton F place n D y k w q
  newton_same C D y k v w p q chosen same_v same_p s = record {
    interpolant = polynomial_same F.ring place n k v w s.interpolant same_v;
    product = polynomial_same F.ring place n (k + 1) p q s.product same_p;
    takes = λ j l c. sym (same_v j l) ∙ s.takes j l ((chosen j l).1 c);
    vanishes = λ j l c. sym (same_p j l) ∙ s.vanishes j l ((chosen j l).1 c);
    only = λ j l e. (chosen j l).0 (s.only j l (same_p j l ∙ e));
  }

  module _ (C : ℕ → Type 0) (y : ℕ → carrier) (k : ℕ) (v p : ℕ → carrier) (s : Newton F place n C y k v p) (x : ℕ) (within : x < n) (new : ¬ C x) where
    pub newton_takes : next_interpolant F y v p x x ≡ y x
    newton_takes =
        ap (add (v x)) (mul_inv_mul F (p x) (add (y x) (v x)) (λ e. new (s.only x within e)) ∙ F.ring.add_comm (y x) (v x))
        ∙ add_add F.ring (v x) (y x)

    -- the place x is chosen too
    pub newton_more : Injective n place → Newton F place n (λ j. C j ⊎ (j ≡ x)) y (k + 1) (next_interpolant F y v p x) (next_product F place p x)
    newton_more apart = record {
      interpolant =
          polynomial_add F.ring place n v (λ j. mul (correction F y v p x) (p j)) (k + 1)
          (polynomial_weaken F.ring place n k (k + 1) v (omega arith) s.interpolant)
          (polynomial_scale F.ring place n (k + 1) (correction F y v p x) p s.product);
      product = polynomial_root F.ring place n (k + 1) (place x) p s.product;
      takes = λ j l. elim [
        | inl c ↦ newton_keeps F y v p x j (s.vanishes j l c) ∙ s.takes j l c
        | inr e ↦ subst (λ i. next_interpolant F y v p x i ≡ y i) (sym e) newton_takes
      ];
      vanishes = λ j l. elim [
        | inl c ↦ ap (mul (add (place j) (place x))) (s.vanishes j l c) ∙ mul-zero F.ring (add (place j) (place x))
        | inr e ↦
            ap (λ i. mul (add (place i) (place x)) (p j)) e
            ∙ ap (λ t. mul t (p j)) (F.ring.add_self (place x))
            ∙ zero-mul F.ring (p j)
      ];
      only = λ j l e. elim (no_zero_divisors F (add (place j) (place x)) (p j) e) [
        | inl h ↦ inr (apart j x l within (same_from_zero F.ring (place j) (place x) h))
        | inr h ↦ inl (s.only j l h)
      ];
    }

  module _ (apart : Injective n place) (y : ℕ → carrier) (choice : ℕ → ℕ) where
    -- the next of the places of a choice, with the new values by any name
    pub newton_next : (k : ℕ) (v p w q : ℕ → carrier) → Newton F place n (Among choice k) y k v p →
        choice k < n → ¬ Among choice k (choice k) →
        ((j : ℕ) → j < n → next_interpolant F y v p (choice k) j ≡ w j) →
        ((j : ℕ) → j < n → next_product F place p (choice k) j ≡ q j) →
        Newton F place n (Among choice (k + 1)) y (k + 1) w q
    newton_next k v p w q s within new same_w same-q =
        newton_same (λ j. Among choice k j ⊎ (j ≡ choice k)) (Among choice (k + 1)) y (k + 1)
        (next_interpolant F y v p (choice k)) w (next_product F place p (choice k)) q
        (λ j l. among_more choice k j) same_w same-q
        (newton_more (Among choice k) y k v p s (choice k) within new apart)

    newton_all : (k : ℕ) → ((i : ℕ) → i < k → choice i < n) → Injective k choice →
        (v : ℕ → carrier) × (p : ℕ → carrier) × Newton F place n (Among choice k) y k v p
    newton_all zero within different =
        (λ j. 𝟎, λ j. one, newton_none (Among choice 0) y (λ j h. omega (arith, h.1)))
    newton_all (suc k) within different =
        let before = newton_all k (λ i l. within i (omega arith)) (λ i j l m. different i j (omega arith) (omega arith)) in
        let v = before.0 in
        let p = before.1 in
        let w = next_interpolant F y v p (choice k) in
        let q = next_product F place p (choice k) in
        let new = not_among choice k (λ i j l m. different i j (omega arith) (omega arith)) in (
          w,
          q,
          subst (λ m. Newton F place n (Among choice m) y m w q) (add-one k)
              (newton_next k v p w q before.2 (within k (omega arith)) new (λ j l. refl) (λ j l. refl)),
        )

    -- any symbols at k places are taken by some polynomial of k coefficients; `unique-through` says that it is the only one
    pub interpolates : (k : ℕ) → ((i : ℕ) → i < k → choice i < n) → Injective k choice →
        (v : ℕ → carrier) × Polynomial F.ring place n k v × ((i : ℕ) → i < k → v (choice i) ≡ y (choice i))
    interpolates k within different =
        let made = newton_all k within different in
        (made.0, made.2.interpolant, λ i l. made.2.takes (choice i) (within i l) (i, l, refl))
