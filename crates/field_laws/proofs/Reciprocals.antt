-- A reciprocal that there is, is an element. Assumes nothing.
use Rattle.std.proofs.Common.{◌≡◌, ℕ, ◌<◌, Some, None, ap, ◌∙◌, subst, ⊎_elim, arith}
use Rattle.std.proofs.lemmas.Bool.{cases_eq}
use Rattle.field_laws.specs.Fields.{FieldModel, FieldLaws, size}

module _ (f : FieldModel) (laws : FieldLaws f) where
  pub found_below : (n i : ℕ) → n < size f → f.reciprocal n ≡ Some i → i < size f
  found_below n i hn e = ⊎_elim at_zero apart (cases_eq n 0)
    where
      at_zero : n ≡ 0 → i < size f
      at_zero z =
          let p : f.reciprocal n ≡ None = ap f.reciprocal z ∙ laws.none_of_zero in
          let no_such : ◌≡◌ {A = ℕ} 0 1 = cc in
          absurd (omega arith)

      apart : (n ≡ 0 → ⊥) → i < size f
      apart z =
          let t = laws.some_of_others n hn z in
          let same : t.0 ≡ i = cc t.2 in
          subst (λ (k : ℕ). k < size f) same t.1
