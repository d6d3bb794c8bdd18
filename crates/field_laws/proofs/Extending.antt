-- The test of what extends a field passes exactly where it does. Assumes nothing.
use Rattle.std.proofs.Common.{◌≡◌, ℕ, zero, suc, ◌<◌, Bool, true, false, not, ◌&&◌, eqb, refl, sym, subst, ⊎_elim, arith}
use Rattle.std.proofs.lemmas.Bool.{cases_eq, ne_eqb, eqb-false, lt-ltb, ltb-true, le-leb, leb-true}
use Rattle.field_laws.specs.Fields.{FieldModel, size}
use Rattle.field_laws.specs.Extensions.{Extends, rootless_below, extends}

both_true : (a b : Bool) → (a && b) ≡ true → (a ≡ true) × (b ≡ true)
both_true true b e = (refl, e)
both_true false b e = (cc, cc)

shut : (t : Bool) → not t ≡ true → t ≡ false
shut true e = sym e
shut false e = refl

module _ (f : FieldModel) (c : ℕ) where
  abbrev trace : ℕ → ℕ
  trace e = f.sum (f.product e e) e

  rootless_at : (n : ℕ) → rootless_below f c n ≡ true → (e : ℕ) → e < n → trace e ≡ c → ⊥
  unfolding rootless_below
  rootless_at zero t e h = absurd (omega arith)
  rootless_at (suc n) t e h =
      let parts = both_true (not (eqb (trace n) c)) (rootless_below f c n) t in
      ⊎_elim
      (λ is. subst (λ (x : ℕ). trace x ≡ c → ⊥) (sym is) (eqb-false (trace n) c (shut _ parts.0)))
      (λ other. rootless_at n parts.1 e (omega arith)) (cases_eq e n)

  rootless_from : (n : ℕ) → ((e : ℕ) → e < n → trace e ≡ c → ⊥) → rootless_below f c n ≡ true
  unfolding rootless_below
  rootless_from zero none = refl
  rootless_from (suc n) none =
      rw (ne_eqb (trace n) c (none n (omega arith))) (rootless_from n (λ e h. none e (omega arith)))

  pub extends_of : extends f c ≡ true → Extends f c
  extends_of t =
      let parts = both_true _ _ t in
      let rest = both_true _ _ parts.1 in
      record { narrow = leb-true _ _ parts.0; element = ltb-true _ _ rest.0; rootless = rootless_at (size f) rest.1 }

  pub of_extends : Extends f c → extends f c ≡ true
  of_extends e = rw (le-leb f.width 4 e.narrow, lt-ltb c (size f) e.element) (rootless_from (size f) e.rootless)
