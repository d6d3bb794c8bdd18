-- One place more in the program's key equation. Assumes nothing.
use Rattle.std.proofs.Common.{◌≡◌, ℕ, ◌+◌, ◌<◌, ◌≤◌, true, false, ◌≢◌, ◌⊎◌, ◌↔◌, List, get_or, sym, refl, ap, ◌∙◌, subst, ap₂, inl, inr, add-one, arith}
use native.Mathlib.Decide.{dec_lt}
use Rattle.std.proofs.lemmas.Bool.{true≢false}
use Rattle.algebra.specs.Sums.{count}
use Rattle.field_laws.specs.Fields.{FieldModel, FieldLaws, size}
use Rattle.field_laws.proofs.Elements.{Element, zero_of, one_of, sum_of, product_of, field_of}
use Rattle.reed_solomon_laws.specs.KeyEquation.{gap, combined, rooted}
use Rattle.reed_solomon_laws.proofs.Arrays.{at, Below, passes, Passed, target, Keyed, Quotient, miss, Eliminated, Located}
use Rattle.reed_solomon_laws.proofs.Numbers.{element, element_zero, element_one, not_zero, element_sum, element_product, element_inverse, places_apart, reciprocal_there}
use Rattle.reed_solomon_laws.proofs.State.{State, state_first, state_same, second_misses, first_pivot, second_pivot, solved_first, solved_second}

module _ (f : FieldModel) (laws : FieldLaws f) (n : ℕ) (small : n ≤ size f) (word marks g p : List ℕ) where
  -- at the start
  pub keyed_none : (q₀ e₀ q₁ e₁ : List ℕ) →
      ((j : ℕ) → j < n → get_or q₀ j 0 ≡ 1) → ((j : ℕ) → j < n → get_or e₀ j 0 ≡ 0) → ((j : ℕ) → j < n → get_or q₁ j 0 ≡ 0) → ((j : ℕ) → j < n → get_or e₁ j 0 ≡ 1) →
      Keyed f n word marks g p 0 q₀ e₀ q₁ e₁ 1 0
  keyed_none q₀ e₀ q₁ e₁ iq₀ ie₀ iq₁ ie₁ = record {
    below₀ = ((λ j l. one j (iq₀ j l)), (λ j l. zero j (ie₀ j l)));
    below₁ = ((λ j l. zero j (iq₁ j l)), (λ j l. one j (ie₁ j l)));
    bounds = refl;
    state = λ laws. state_same (field_of f laws) (element f laws) n (target f laws word g p) (Passed marks p 0) (Passed marks p 0)
        (λ j. one_of f laws) (λ j. zero_of f laws) (λ j. zero_of f laws) (λ j. one_of f laws) (at f laws q₀) (at f laws e₀) (at f laws q₁) (at f laws e₁) 1 0
        (λ j l. (λ c. c, λ c. c))
        (λ j l. sym (ap (element f laws) (iq₀ j l) ∙ element_one f laws)) (λ j l. sym (ap (element f laws) (ie₀ j l) ∙ element_zero f laws))
        (λ j l. sym (ap (element f laws) (iq₁ j l) ∙ element_zero f laws)) (λ j l. sym (ap (element f laws) (ie₁ j l) ∙ element_one f laws))
        (state_first (field_of f laws) (element f laws) n (target f laws word g p) (Passed marks p 0) (λ j c. omega (arith, c.0)));
  }
    where
      one : {a : ℕ} (j : ℕ) → a ≡ 1 → a < size f
      one j e = subst (λ (b : ℕ). b < size f) (sym e) (one_of f laws).1

      zero : {a : ℕ} (j : ℕ) → a ≡ 0 → a < size f
      zero j e = subst (λ (b : ℕ). b < size f) (sym e) (zero_of f laws).1

  module _ (x : ℕ) (q₀ e₀ q₁ e₁ : List ℕ) (b₀ b₁ : ℕ) (s : Keyed f n word marks g p x q₀ e₀ q₁ e₁ b₀ b₁) where
    -- a place that is blank or was chosen
    pub keyed_skip : passes marks p x ≡ false → Keyed f n word marks g p (x + 1) q₀ e₀ q₁ e₁ b₀ b₁
    keyed_skip no_more = record {
      below₀ = s.below₀;
      below₁ = s.below₁;
      bounds = s.bounds ∙ ap (λ m. 1 + m) (sym (ap (λ m. count (passes marks p) m) (add-one x) ∙ (rw no_more (omega arith))));
      state = λ laws. state_same (field_of f laws) (element f laws) n (target f laws word g p) (Passed marks p x) (Passed marks p (x + 1))
          (at f laws q₀) (at f laws e₀) (at f laws q₁) (at f laws e₁) (at f laws q₀) (at f laws e₀) (at f laws q₁) (at f laws e₁) b₀ b₁
          (λ j l. (λ c. (omega (arith, c.0), c.1), λ c. (earlier j c.0 c.1, c.1)))
          (λ j l. refl) (λ j l. refl) (λ j l. refl) (λ j l. refl) (s.state laws);
    }
      where
        earlier : (j : ℕ) → j < x + 1 → passes marks p j ≡ true → j < x
        earlier j l e = elim (dec_lt j x) [
          | yes h ↦ h
          | no h ↦ let is : j ≡ x = omega arith in absurd (true≢false (sym e ∙ ap (passes marks p) is ∙ no_more))
        ]

    module _ (within : x < n) (word_below : Below f n word) (g-below : Below f n g) (p_below : Below f n p) (t : ℕ) (quotient : Quotient f word g p x t) where
      t_below : t < size f
      t_below =
          let r = reciprocal_there f laws (get_or p x 0) quotient.0 (p_below x within) quotient.1 in
          subst (λ (a : ℕ). a < size f) (sym quotient.2) (laws.product_below _ _ (laws.sum_below _ _ (word_below x within) (g-below x within)) r.1)

      t_is : element f laws t ≡ target f laws word g p x
      t_is =
          let r = reciprocal_there f laws (get_or p x 0) quotient.0 (p_below x within) quotient.1 in
          ap (element f laws) quotient.2
          ∙ element_product f laws (f.sum (get_or word x 0) (get_or g x 0)) quotient.0 (laws.sum_below _ _ (word_below x within) (g-below x within)) r.1
          ∙ ap₂ (product_of f laws) (element_sum f laws (get_or word x 0) (get_or g x 0) (word_below x within) (g-below x within)) (element_inverse f laws (get_or p x 0) quotient.0 (p_below x within) quotient.1)

      pub miss_below : (q e : List ℕ) → Below f n q → Below f n e → miss f x t q e < size f
      miss_below q e bq be = laws.sum_below _ _ (bq x within) (laws.product_below _ _ t_below (be x within))

      miss_is : (q e : List ℕ) → Below f n q → Below f n e → element f laws (miss f x t q e) ≡ gap (field_of f laws) (element f laws) n (target f laws word g p) (at f laws q) (at f laws e) x
      miss_is q e bq be =
          element_sum f laws (get_or q x 0) (f.product t (get_or e x 0)) (bq x within) (laws.product_below _ _ t_below (be x within))
          ∙ ap (sum_of f laws (at f laws q x)) (element_product f laws t (get_or e x 0) t_below (be x within) ∙ ap (λ (a : Element f). product_of f laws a (at f laws e x)) t_is)

      missed : (q e : List ℕ) → Below f n q → Below f n e → (miss f x t q e ≡ 0 → ⊥) → gap (field_of f laws) (element f laws) n (target f laws word g p) (at f laws q) (at f laws e) x ≢ zero_of f laws
      missed q e bq be ne z = not_zero f laws (miss f x t q e) (miss_below q e bq be) ne (miss_is q e bq be ∙ z)

      met : (q e : List ℕ) → Below f n q → Below f n e → miss f x t q e ≡ 0 → gap (field_of f laws) (element f laws) n (target f laws word g p) (at f laws q) (at f laws e) x ≡ zero_of f laws
      met q e bq be z = sym (miss_is q e bq be) ∙ ap (element f laws) z ∙ element_zero f laws

      pub one_misses : passes marks p x ≡ true → miss f x t q₀ e₀ ≡ 0 → miss f x t q₁ e₁ ≡ 0 → ⊥
      one_misses here z z' =
          second_misses (field_of f laws) (element f laws) n (target f laws word g p) (places_apart f laws n small) (Passed marks p x) (at f laws q₀) (at f laws e₀) (at f laws q₁) (at f laws e₁) b₀ b₁ x (s.state laws) within
          (λ c. omega (arith, c.0)) (met q₀ e₀ s.below₀.0 s.below₀.1 z) (met q₁ e₁ s.below₁.0 s.below₁.1 z')

      combined_is : (a b : ℕ) (c d : Element f) (u q u' : List ℕ) → a < size f → b < size f → element f laws a ≡ c → element f laws b ≡ d → Below f n u → Below f n q →
          ((j : ℕ) → j < n → get_or u' j 0 ≡ f.sum (f.product a (get_or u j 0)) (f.product b (get_or q j 0))) →
          (j : ℕ) → j < n → combined (field_of f laws) c (at f laws u) d (at f laws q) j ≡ at f laws u' j
      combined_is a b c d u q u' la lb ea eb bu bq is j l = sym (
          ap (element f laws) (is j l)
          ∙ element_sum f laws (f.product a (get_or u j 0)) (f.product b (get_or q j 0)) (laws.product_below _ _ la (bu j l)) (laws.product_below _ _ lb (bq j l))
          ∙ ap₂ (sum_of f laws) (element_product f laws a (get_or u j 0) la (bu j l) ∙ ap (λ (r : Element f). product_of f laws r (at f laws u j)) ea)
          (element_product f laws b (get_or q j 0) lb (bq j l) ∙ ap (λ (r : Element f). product_of f laws r (at f laws q j)) eb)
          )

      rooted_is : (q q' : List ℕ) → Below f n q → ((j : ℕ) → j < n → get_or q' j 0 ≡ f.product (f.sum j x) (get_or q j 0)) →
          (j : ℕ) → j < n → rooted (field_of f laws) (element f laws) x (at f laws q) j ≡ at f laws q' j
      rooted_is q q' bq is j l =
          let lj : j < size f = omega arith in
          let lx : x < size f = omega arith in
          sym (
          ap (element f laws) (is j l)
          ∙ element_product f laws (f.sum j x) (get_or q j 0) (laws.sum_below j x lj lx) (bq j l)
          ∙ ap (λ (r : Element f). product_of f laws r (at f laws q j)) (element_sum f laws j x lj lx)
          )

      combined_below : (a b : ℕ) (u q u' : List ℕ) → a < size f → b < size f → Below f n u → Below f n q → ((j : ℕ) → j < n → get_or u' j 0 ≡ f.sum (f.product a (get_or u j 0)) (f.product b (get_or q j 0))) → Below f n u'
      combined_below a b u q u' la lb bu bq is j l = subst (λ (r : ℕ). r < size f) (sym (is j l)) (laws.sum_below _ _ (laws.product_below _ _ la (bu j l)) (laws.product_below _ _ lb (bq j l)))

      rooted_below : (q q' : List ℕ) → Below f n q → ((j : ℕ) → j < n → get_or q' j 0 ≡ f.product (f.sum j x) (get_or q j 0)) → Below f n q'
      rooted_below q q' bq is j l =
          let lj : j < size f = omega arith in
          let lx : x < size f = omega arith in
          subst (λ (r : ℕ). r < size f) (sym (is j l)) (laws.product_below _ _ (laws.sum_below j x lj lx) (bq j l))

      here_too : passes marks p x ≡ true → (j : ℕ) → j < n → (Passed marks p x j ⊎ (j ≡ x)) ↔ Passed marks p (x + 1) j
      here_too here j l = (
        elim [ inl c ↦ (omega (arith, c.0), c.1) | inr e ↦ (omega arith, ap (passes marks p) e ∙ here) ],
        λ c. elim (dec_lt j x) [ yes b ↦ inl (b, c.1) | no b ↦ inr (omega (arith, c.0)) ],
      )

      one_more : passes marks p x ≡ true → count (passes marks p) (x + 1) ≡ count (passes marks p) x + 1
      one_more here = ap (λ m. count (passes marks p) m) (add-one x) ∙ (rw here refl)

      module _ (here : passes marks p x ≡ true) (q₀' e₀' q₁' e₁' : List ℕ) where
        first_state : (miss f x t q₀ e₀ ≡ 0 → ⊥) → (miss f x t q₁ e₁ ≡ 0) ⊎ (b₀ ≤ b₁) →
            Eliminated f n x (miss f x t q₀ e₀) (miss f x t q₁ e₁) q₀ e₀ q₁ e₁ q₀' e₀' q₁' e₁' →
            State (field_of f laws) (element f laws) n (target f laws word g p) (Passed marks p (x + 1)) (at f laws q₀') (at f laws e₀') (at f laws q₁') (at f laws e₁') (b₀ + 1) b₁
        first_state ne fits done =
            let F = field_of f laws in
            let T = target f laws word g p in
            let a₀ = miss f x t q₀ e₀ in
            let a₁ = miss f x t q₁ e₁ in
            let la₀ = miss_below q₀ e₀ s.below₀.0 s.below₀.1 in
            let la₁ = miss_below q₁ e₁ s.below₁.0 s.below₁.1 in
            let ia₀ = miss_is q₀ e₀ s.below₀.0 s.below₀.1 in
            let ia₁ = miss_is q₁ e₁ s.below₁.0 s.below₁.1 in
            let G₀ = gap F (element f laws) n T (at f laws q₀) (at f laws e₀) x in
            let G₁ = gap F (element f laws) n T (at f laws q₁) (at f laws e₁) x in
            state_same F (element f laws) n T (λ j. Passed marks p x j ⊎ (j ≡ x)) (Passed marks p (x + 1))
            (rooted F (element f laws) x (at f laws q₀)) (rooted F (element f laws) x (at f laws e₀)) (combined F G₀ (at f laws q₁) G₁ (at f laws q₀)) (combined F G₀ (at f laws e₁) G₁ (at f laws e₀))
            (at f laws q₀') (at f laws e₀') (at f laws q₁') (at f laws e₁') (b₀ + 1) b₁
            (here_too here)
            (rooted_is q₀ q₀' s.below₀.0 done.q_is) (rooted_is e₀ e₀' s.below₀.1 done.e_is)
            (combined_is a₀ a₁ G₀ G₁ q₁ q₀ q₁' la₀ la₁ ia₀ ia₁ s.below₁.0 s.below₀.0 done.u_is) (combined_is a₀ a₁ G₀ G₁ e₁ e₀ e₁' la₀ la₁ ia₀ ia₁ s.below₁.1 s.below₀.1 done.w_is)
            (first_pivot F (element f laws) n T (places_apart f laws n small) (Passed marks p x) (at f laws q₀) (at f laws e₀) (at f laws q₁) (at f laws e₁) b₀ b₁ x (s.state laws) within
            (missed q₀ e₀ s.below₀.0 s.below₀.1 ne) (elim fits [ inl z ↦ inl (met q₁ e₁ s.below₁.0 s.below₁.1 z) | inr h ↦ inr h ]))

        second_state : (miss f x t q₁ e₁ ≡ 0 → ⊥) → (miss f x t q₀ e₀ ≡ 0) ⊎ (b₁ < b₀) →
            Eliminated f n x (miss f x t q₁ e₁) (miss f x t q₀ e₀) q₁ e₁ q₀ e₀ q₁' e₁' q₀' e₀' →
            State (field_of f laws) (element f laws) n (target f laws word g p) (Passed marks p (x + 1)) (at f laws q₀') (at f laws e₀') (at f laws q₁') (at f laws e₁') b₀ (b₁ + 1)
        second_state ne fits done =
            let F = field_of f laws in
            let T = target f laws word g p in
            let a₀ = miss f x t q₀ e₀ in
            let a₁ = miss f x t q₁ e₁ in
            let la₀ = miss_below q₀ e₀ s.below₀.0 s.below₀.1 in
            let la₁ = miss_below q₁ e₁ s.below₁.0 s.below₁.1 in
            let ia₀ = miss_is q₀ e₀ s.below₀.0 s.below₀.1 in
            let ia₁ = miss_is q₁ e₁ s.below₁.0 s.below₁.1 in
            let G₀ = gap F (element f laws) n T (at f laws q₀) (at f laws e₀) x in
            let G₁ = gap F (element f laws) n T (at f laws q₁) (at f laws e₁) x in
            state_same F (element f laws) n T (λ j. Passed marks p x j ⊎ (j ≡ x)) (Passed marks p (x + 1))
            (combined F G₁ (at f laws q₀) G₀ (at f laws q₁)) (combined F G₁ (at f laws e₀) G₀ (at f laws e₁)) (rooted F (element f laws) x (at f laws q₁)) (rooted F (element f laws) x (at f laws e₁))
            (at f laws q₀') (at f laws e₀') (at f laws q₁') (at f laws e₁') b₀ (b₁ + 1)
            (here_too here)
            (combined_is a₁ a₀ G₁ G₀ q₀ q₁ q₀' la₁ la₀ ia₁ ia₀ s.below₀.0 s.below₁.0 done.u_is) (combined_is a₁ a₀ G₁ G₀ e₀ e₁ e₀' la₁ la₀ ia₁ ia₀ s.below₀.1 s.below₁.1 done.w_is)
            (rooted_is q₁ q₁' s.below₁.0 done.q_is) (rooted_is e₁ e₁' s.below₁.1 done.e_is)
            (second_pivot F (element f laws) n T (places_apart f laws n small) (Passed marks p x) (at f laws q₀) (at f laws e₀) (at f laws q₁) (at f laws e₁) b₀ b₁ x (s.state laws) within
            (missed q₁ e₁ s.below₁.0 s.below₁.1 ne) (elim fits [ inl z ↦ inl (met q₀ e₀ s.below₀.0 s.below₀.1 z) | inr h ↦ inr h ]))

-- the steps, whichever of the pairs is the pivot
module _ (f : FieldModel) (laws : FieldLaws f) (n : ℕ) (small : n ≤ size f) (word marks g p : List ℕ) (x : ℕ) (q₀ e₀ q₁ e₁ : List ℕ) (b₀ b₁ : ℕ) (s : Keyed f n word marks g p x q₀ e₀ q₁ e₁ b₀ b₁)
    (within : x < n) (word_below : Below f n word) (g-below : Below f n g) (p_below : Below f n p) (t : ℕ) (quotient : Quotient f word g p x t) (here : passes marks p x ≡ true) (q₀' e₀' q₁' e₁' : List ℕ) where
  a₀_below : miss f x t q₀ e₀ < size f
  a₀_below = miss_below f laws n small word marks g p x q₀ e₀ q₁ e₁ b₀ b₁ s within word_below g-below p_below t quotient q₀ e₀ s.below₀.0 s.below₀.1

  a₁_below : miss f x t q₁ e₁ < size f
  a₁_below = miss_below f laws n small word marks g p x q₀ e₀ q₁ e₁ b₀ b₁ s within word_below g-below p_below t quotient q₁ e₁ s.below₁.0 s.below₁.1

  pub keyed_first : (miss f x t q₀ e₀ ≡ 0 → ⊥) → (miss f x t q₁ e₁ ≡ 0) ⊎ (b₀ ≤ b₁) →
      Eliminated f n x (miss f x t q₀ e₀) (miss f x t q₁ e₁) q₀ e₀ q₁ e₁ q₀' e₀' q₁' e₁' → Keyed f n word marks g p (x + 1) q₀' e₀' q₁' e₁' (b₀ + 1) b₁
  keyed_first ne fits done =
      let rooted-below' = rooted_below f laws n small word marks g p x q₀ e₀ q₁ e₁ b₀ b₁ s within word_below g-below p_below t quotient in
      let combined-below' = combined_below f laws n small word marks g p x q₀ e₀ q₁ e₁ b₀ b₁ s within word_below g-below p_below t quotient in
      record {
        below₀ = (rooted-below' q₀ q₀' s.below₀.0 done.q_is, rooted-below' e₀ e₀' s.below₀.1 done.e_is);
        below₁ = (combined-below' (miss f x t q₀ e₀) (miss f x t q₁ e₁) q₁ q₀ q₁' a₀_below a₁_below s.below₁.0 s.below₀.0 done.u_is, combined-below' (miss f x t q₀ e₀) (miss f x t q₁ e₁) e₁ e₀ e₁' a₀_below a₁_below s.below₁.1 s.below₀.1 done.w_is);
        bounds = omega (arith, s.bounds, one_more f laws n small word marks g p x q₀ e₀ q₁ e₁ b₀ b₁ s within word_below g-below p_below t quotient here);
        state = λ ls. first_state f ls n small word marks g p x q₀ e₀ q₁ e₁ b₀ b₁ s within word_below g-below p_below t quotient here q₀' e₀' q₁' e₁' ne fits done;
      }

  pub keyed_second : (miss f x t q₁ e₁ ≡ 0 → ⊥) → (miss f x t q₀ e₀ ≡ 0) ⊎ (b₁ < b₀) →
      Eliminated f n x (miss f x t q₁ e₁) (miss f x t q₀ e₀) q₁ e₁ q₀ e₀ q₁' e₁' q₀' e₀' → Keyed f n word marks g p (x + 1) q₀' e₀' q₁' e₁' b₀ (b₁ + 1)
  keyed_second ne fits done =
      let rooted-below' = rooted_below f laws n small word marks g p x q₀ e₀ q₁ e₁ b₀ b₁ s within word_below g-below p_below t quotient in
      let combined-below' = combined_below f laws n small word marks g p x q₀ e₀ q₁ e₁ b₀ b₁ s within word_below g-below p_below t quotient in
      record {
        below₀ = (combined-below' (miss f x t q₁ e₁) (miss f x t q₀ e₀) q₀ q₁ q₀' a₁_below a₀_below s.below₀.0 s.below₁.0 done.u_is, combined-below' (miss f x t q₁ e₁) (miss f x t q₀ e₀) e₀ e₁ e₀' a₁_below a₀_below s.below₀.1 s.below₁.1 done.w_is);
        below₁ = (rooted-below' q₁ q₁' s.below₁.0 done.q_is, rooted-below' e₁ e₁' s.below₁.1 done.e_is);
        bounds = omega (arith, s.bounds, one_more f laws n small word marks g p x q₀ e₀ q₁ e₁ b₀ b₁ s within word_below g-below p_below t quotient here);
        state = λ ls. second_state f ls n small word marks g p x q₀ e₀ q₁ e₁ b₀ b₁ s within word_below g-below p_below t quotient here q₀' e₀' q₁' e₁' ne fits done;
      }

-- the pair with the smaller bound, of two the first
module _ (f : FieldModel) (n : ℕ) (word marks g p q₀ e₀ q₁ e₁ : List ℕ) (b₀ b₁ : ℕ) (s : Keyed f n word marks g p n q₀ e₀ q₁ e₁ b₀ b₁) where
  pub located_first : b₀ ≤ b₁ → Located f n word marks g p e₀
  located_first h = record {
    e_below = s.below₀.1;
    q = q₀;
    b = b₀;
    short = omega (arith, s.bounds);
    solved = λ laws. solved_first (field_of f laws) (element f laws) n (target f laws word g p) (Passed marks p n) (at f laws q₀) (at f laws e₀) (at f laws q₁) (at f laws e₁) b₀ b₁ (s.state laws);
  }

  pub located_second : b₁ < b₀ → Located f n word marks g p e₁
  located_second h = record {
    e_below = s.below₁.1;
    q = q₁;
    b = b₁;
    short = omega (arith, s.bounds);
    solved = λ laws. solved_second (field_of f laws) (element f laws) n (target f laws word g p) (Passed marks p n) (at f laws q₀) (at f laws e₀) (at f laws q₁) (at f laws e₁) b₀ b₁ (s.state laws);
  }
