-- Numbers below the size of a lawful field as its elements, and their arithmetic. Assumes nothing.
use Rattle.std.proofs.Common.{◌≡◌, ℕ, ◌<◌, ◌≤◌, eqb, ◌≢◌, Some, None, sym, refl, ap, ◌∙◌, subst, ap₂, inl, inr, arith, pow_mono}
use native.Mathlib.Decide.{dec_lt}
use Rattle.algebra.specs.Field.{same}
use Rattle.algebra.specs.Sums.{Injective}
use Rattle.algebra.proofs.Field.{mul_cancel, eq_same, ne_same}
use Rattle.field_laws.specs.Fields.{FieldModel, FieldLaws, size}
use Rattle.field_laws.proofs.Elements.{Element, element_path, zero_of, one_of, sum_of, product_of, field_of}
use Rattle.std.proofs.lemmas.Bool.{eqb-true, eqb-false, cases_Bool}

module _ (f : FieldModel) (laws : FieldLaws f) where
  pub size_most : size f ≤ 256
  size_most = pow_mono {i = f.width} {j = 8} laws.width_most

  element_by : (a : ℕ) → Dec (a < size f) → Element f
  element_by a (yes h) = (a, h)
  element_by a (no h) = zero_of f laws

  -- the element of a number; a number that has none stands for zero
  pub element : ℕ → Element f
  element a = element_by a (dec_lt a (size f))

  element_by_is : (a : ℕ) (d : Dec (a < size f)) → a < size f → (element_by a d).0 ≡ a
  unfolding element_by
  element_by_is a (yes h) l = refl
  element_by_is a (no h) l = absurd (h l)

  pub element_is : (a : ℕ) → a < size f → (element a).0 ≡ a
  unfolding element
  element_is a l = element_by_is a (dec_lt a (size f)) l

  pub same_number : (a b : ℕ) → a < size f → b < size f → element a ≡ element b → a ≡ b
  same_number a b la lb e = sym (element_is a la) ∙ ap (λ (x : Element f). x.0) e ∙ element_is b lb

  pub element_sum : (a b : ℕ) → a < size f → b < size f → element (f.sum a b) ≡ sum_of f laws (element a) (element b)
  element_sum a b la lb =
      element_path f _ _ (element_is (f.sum a b) (laws.sum_below a b la lb) ∙ sym (ap₂ f.sum (element_is a la) (element_is b lb)))

  pub element_product : (a b : ℕ) → a < size f → b < size f → element (f.product a b) ≡ product_of f laws (element a) (element b)
  element_product a b la lb =
      element_path f _ _ (element_is (f.product a b) (laws.product_below a b la lb) ∙ sym (ap₂ f.product (element_is a la) (element_is b lb)))

  pub element_zero : element 0 ≡ zero_of f laws
  element_zero = element_path f _ _ (element_is 0 (zero_of f laws).1)

  pub element_one : element 1 ≡ one_of f laws
  element_one = element_path f _ _ (element_is 1 (one_of f laws).1)

  pub not_zero : (a : ℕ) → a < size f → (a ≡ 0 → ⊥) → element a ≢ zero_of f laws
  not_zero a l ne e = ne (same_number a 0 l (zero_of f laws).1 (e ∙ sym element_zero))

  -- the elements numbered below n are different
  pub places_apart : (n : ℕ) → n ≤ size f → Injective n element
  places_apart n small i j li lj e = same_number i j (omega arith) (omega arith) e

  -- a reciprocal that is there
  pub reciprocal_there : (a i : ℕ) → a < size f → f.reciprocal a ≡ Some i → (a ≡ 0 → ⊥) × (i < size f) × (f.product a i ≡ 1)
  reciprocal_there a i l e =
      let apart : a ≡ 0 → ⊥ = λ z. let none : f.reciprocal a ≡ None = ap f.reciprocal z ∙ laws.none_of_zero in let no_such : ◌≡◌ {A = ℕ} 0 1 = cc in omega arith in
      let t = laws.some_of_others a l apart in
      let is : t.0 ≡ i = cc t.2 in
      (apart, subst (λ (k : ℕ). k < size f) is t.1, subst (λ (k : ℕ). f.product a k ≡ 1) is t.3)

  pub element_inverse : (a i : ℕ) → a < size f → f.reciprocal a ≡ Some i → element i ≡ (field_of f laws).inv (element a)
  element_inverse a i l e =
      let t = reciprocal_there a i l e in
      let F = field_of f laws in
      let ne = not_zero a l t.0 in
      mul_cancel F (element a) (element i) (F.inv (element a)) ne (sym (element_product a i l t.1) ∙ ap element t.2 ∙ element_one ∙ sym (F.mul_inv (element a) ne))

  pub same_numbers : (a b : ℕ) → a < size f → b < size f → same (field_of f laws) (element a) (element b) ≡ eqb a b
  same_numbers a b la lb = elim (cases_Bool (eqb a b)) [
    | inl h ↦ eq_same (field_of f laws) _ _ (ap element (eqb-true a b h)) ∙ sym h
    | inr h ↦ ne_same (field_of f laws) _ _ (λ e. eqb-false a b h (same_number a b la lb e)) ∙ sym h
  ]
