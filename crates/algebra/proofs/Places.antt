-- Sums, multiples and products of polynomials that are given by their values, and the root bound for them. Assumes nothing.
use Rattle.std.proofs.Common.{◌≡◌, ℕ, ◌+◌, ◌-◌, ◌<◌, ◌≤◌, ◌≢◌, [], ◌∷◌, sym, refl, ap, ◌∙◌, ap₂, arith}
use native.Mathlib.Decide.{dec_lt}
use Rattle.algebra.specs.Field.{Ring, Field, same}
use Rattle.algebra.specs.Places.{Polynomial, agreements, zeros}
use Rattle.algebra.specs.Poly.{value, plus, scaled, times, with_root}
use Rattle.algebra.specs.Sums.{Injective}
use Rattle.algebra.proofs.Field.{add-zero, mul-zero, same_from_zero, zero_from_same, same_true, eq_same}
use Rattle.algebra.proofs.Poly.{
  value_plus,
  value_scaled,
  value_times,
  value_with_root,
  length_plus,
  length_scaled,
  length_times,
  length_with_root,
}
use Rattle.algebra.proofs.Roots.{roots, root_bound, agree_everywhere}
use Rattle.algebra.proofs.Sums.{count_mono}

module _ (R : Ring) (place : ℕ → R.carrier) (n : ℕ) where
  open R use {carrier, zero, add, mul}

  pub polynomial_same : (k : ℕ) (v w : ℕ → carrier) → Polynomial R place n k v → ((j : ℕ) → j < n → v j ≡ w j) → Polynomial R place n k w
  polynomial_same k v w p e = record {
    coefficients = p.coefficients;
    short = p.short;
    values = λ j l. p.values j l ∙ e j l;
  }

  pub polynomial_weaken : (j k : ℕ) (v : ℕ → carrier) → j ≤ k → Polynomial R place n j v → Polynomial R place n k v
  polynomial_weaken j k v h p = record { coefficients = p.coefficients; short = omega (arith, p.short); values = p.values }

  pub polynomial_zero : (k : ℕ) → Polynomial R place n k (λ j. zero)
  polynomial_zero k = record { coefficients = []; short = omega arith; values = λ j l. refl }

  pub polynomial_constant : (c : carrier) → Polynomial R place n 1 (λ j. c)
  polynomial_constant c = record {
    coefficients = c ∷ [];
    short = omega arith;
    values = λ j l. ap (add c) (mul-zero R (place j)) ∙ add-zero R c;
  }

  module _ (v w : ℕ → carrier) where
    pub polynomial_add : (k : ℕ) → Polynomial R place n k v → Polynomial R place n k w → Polynomial R place n k (λ j. add (v j) (w j))
    polynomial_add k p q = record {
      coefficients = plus R p.coefficients q.coefficients;
      short = length_plus R k p.coefficients q.coefficients p.short q.short;
      values = λ j l. value_plus R p.coefficients q.coefficients (place j) ∙ ap₂ add (p.values j l) (q.values j l);
    }

    pub polynomial_mul : (j k : ℕ) → 1 ≤ k → Polynomial R place n j v → Polynomial R place n k w → Polynomial R place n (j + k - 1) (λ i. mul (v i) (w i))
    polynomial_mul j k h p q = record {
      coefficients = times R p.coefficients q.coefficients;
      short = length_times R j k p.coefficients q.coefficients p.short q.short h;
      values = λ i l. value_times R p.coefficients q.coefficients (place i) ∙ ap₂ mul (p.values i l) (q.values i l);
    }

  pub polynomial_scale : (k : ℕ) (c : carrier) (v : ℕ → carrier) → Polynomial R place n k v → Polynomial R place n k (λ j. mul c (v j))
  polynomial_scale k c v p = record {
    coefficients = scaled R c p.coefficients;
    short = omega (arith, length_scaled R c p.coefficients, p.short);
    values = λ j l. value_scaled R c p.coefficients (place j) ∙ ap (mul c) (p.values j l);
  }

  -- the product with X + x
  pub polynomial_root : (k : ℕ) (x : carrier) (v : ℕ → carrier) → Polynomial R place n k v → Polynomial R place n (k + 1) (λ j. mul (add (place j) x) (v j))
  polynomial_root k x v p = record {
    coefficients = with_root R x p.coefficients;
    short = length_with_root R k x p.coefficients p.short;
    values = λ j l. value_with_root R x p.coefficients (place j) ∙ ap (mul (add (place j) x)) (p.values j l);
  }

module _ (F : Field) (place : ℕ → F.ring.carrier) (n : ℕ) (apart : Injective n place) where
  open F.ring use {carrier, zero, add}

  -- as many places where v vanishes as coefficients: v vanishes at all places
  pub zero_at_places : (k : ℕ) (v : ℕ → carrier) → Polynomial F.ring place n k v → k ≤ zeros F n v → (j : ℕ) → j < n → v j ≡ zero
  zero_at_places k v p many j l = sym (p.values j l) ∙ root_bound F place n apart k p.coefficients p.short enough (place j)
    where
      enough : k ≤ roots F place n p.coefficients
      enough = omega (
        arith,
        count_mono (λ i. same F (v i) zero) (λ i. same F (value F.ring p.coefficients (place i)) zero) n
            (λ i m e. eq_same F (value F.ring p.coefficients (place i)) zero (p.values i m ∙ same_true F (v i) zero e)),
      )

  module _ (k : ℕ) (v w : ℕ → carrier) (p : Polynomial F.ring place n k v) (q : Polynomial F.ring place n k w) where
    -- as many places where v and w agree as coefficients: they agree at all places
    pub same_at_places : k ≤ agreements F n v w → (j : ℕ) → j < n → v j ≡ w j
    same_at_places many j l =
        same_from_zero F.ring (v j) (w j)
        (zero_at_places k (λ i. add (v i) (w i)) (polynomial_add F.ring place n v w k p q) enough j l)
      where
        enough : k ≤ zeros F n (λ i. add (v i) (w i))
        enough = omega (
          arith,
          count_mono (λ i. same F (v i) (w i)) (λ i. same F (add (v i) (w i)) zero) n
              (λ i m e. eq_same F (add (v i) (w i)) zero (zero_from_same F.ring (v i) (w i) (same_true F (v i) (w i) e))),
        )

    -- two that differ somewhere agree at fewer places than they have coefficients: the distance of a code
    pub few_agreements : (j : ℕ) → j < n → v j ≢ w j → agreements F n v w < k
    few_agreements j l differ =
        elim (dec_lt (agreements F n v w) k) [
          | yes h ↦ h
          | no h ↦ absurd (differ (same_at_places (omega arith) j l))
        ]

    -- two that agree at k places of a choice agree at all
    pub unique_through : (choice : ℕ → ℕ) → ((i : ℕ) → i < k → choice i < n) → Injective k choice →
        ((i : ℕ) → i < k → v (choice i) ≡ w (choice i)) →
        (j : ℕ) → j < n → v j ≡ w j
    unique_through choice within different agree j l =
        sym (p.values j l)
        ∙ agree_everywhere F k (λ i. place (choice i)) chosen_apart p.coefficients q.coefficients p.short q.short chosen_agree (place j)
        ∙ q.values j l
      where
        chosen_apart : Injective k (λ i. place (choice i))
        chosen_apart i m li lm e = different i m li lm (apart (choice i) (choice m) (within i li) (within m lm) e)

        chosen_agree : (i : ℕ) → i < k → value F.ring p.coefficients (place (choice i)) ≡ value F.ring q.coefficients (place (choice i))
        chosen_agree i li = p.values (choice i) (within i li) ∙ agree i li ∙ sym (q.values (choice i) (within i li))

  pub few_zeros : (k : ℕ) (v : ℕ → carrier) → Polynomial F.ring place n k v → (j : ℕ) → j < n → v j ≢ zero → zeros F n v < k
  few_zeros k v p = few_agreements k v (λ i. zero) p (polynomial_zero F.ring place n k)
