-- What a call on elements of a field answers, and the two parts of an extension's number. Assumes nothing.
use Rattle.std.proofs.Common.{◌≡◌, ℕ, ◌*◌, ◌/◌, ◌%◌, ◌^◌, ◌<◌, Bool, true, false, cond, ltb, Some, Ok, Err, Option, Result, sym, refl, ap, ◌∙◌, subst, arith}
use Rattle.std.proofs.lemmas.Bool.{lt-ltb, ltb-true, cond-true}
use Rattle.words.specs.declared.fault.Fault.{Fault}
use Rattle.field_laws.specs.Fields.{FieldModel, FieldLaws, size}
use Rattle.field_laws.proofs.Reciprocals.{found_below}
use Rattle.fields.specs.Answers.{of_one, of_two, too_large}
use Rattle.fields.specs.declared.below.Parts.{Parts}

pub ok_one : {A : Type 0} (q a : ℕ) (v : A) → a < q → of_one q a v ≡ Ok v
ok_one q a v ha = cond-true (ltb a q) (Ok v) (Err (too_large 0)) (lt-ltb a q ha)

-- operands that are not refused
pub two_below : (q a b : ℕ) {u : Unit {0}} → Ok u ≡ of_two q a b tt → (a < q) × (b < q)
two_below q a b {u = u} e = by (ltb a q) (ltb b q) (ltb-true a q) (ltb-true b q) e
  where
    by : (s t : Bool) → (s ≡ true → a < q) → (t ≡ true → b < q) → Ok u ≡ cond s (cond t (Ok u) (Err (too_large 1))) (Err (too_large 0)) → (a < q) × (b < q)
    by true true first second e = (first refl, second refl)
    by true false first second e = cc
    by false t first second e = cc

pub ok_two : {A : Type 0} (q a b : ℕ) (v : A) → a < q → b < q → of_two q a b v ≡ Ok v
ok_two q a b v ha hb = rw (lt-ltb a q ha, lt-ltb b q hb) refl

-- a result that is both
pub same_value : {A : Type 0} {r : Result A Fault} {x v : A} → r ≡ Ok x → r ≡ Ok v → x ≡ v
same_value p q = cc

pub never : {A B : Type 0} {r : Result A Fault} {e : Fault} {v : A} → r ≡ Err e → r ≡ Ok v → B
never p q = let z : ◌≡◌ {A = ℕ} 0 1 = cc in absurd (omega arith)

-- the parts of x among elements of the width m
pub record PartOf (m x : ℕ) (p : Parts) : Type 0 where
  pub low_is : p.low ≡ x % 2 ^ m
  pub high_is : p.high ≡ x / 2 ^ m
  pub low_below : p.low < 2 ^ m
  pub high_below : p.high < 2 ^ m

pub part_of : (w m x : ℕ) (p : Parts) → w ≡ m → x < 2 ^ (2 * w) →
    (((p.low ≡ x % 2 ^ w) × (p.high ≡ x / 2 ^ w)) × ((p.low < 2 ^ w) × (x < 2 ^ (2 * w) → p.high < 2 ^ w))) → PartOf m x p
part_of w m x p e h t =
    subst (λ n. PartOf n x p) e (record { low_is = t.0.0; high_is = t.0.1; low_below = t.1.0; high_below = t.1.1 h })

-- a call of `norm` that gave n, and one of `inverse` on n that gave i
pub inverse_found : (f : FieldModel) (laws : FieldLaws f) (v n i : ℕ) (o : Option ℕ) (r : Result ℕ Fault) (r' : Result (Option ℕ) Fault) →
    r ≡ Ok n → ((r ≡ Ok v) × (v < size f)) → r' ≡ Ok o → r' ≡ of_one (size f) n (f.reciprocal n) → o ≡ Some i →
    (f.reciprocal v ≡ Some i) × (i < size f)
inverse_found f laws v n i o r r' n-was norm-is o-was inverse-is found =
    let n-is : n ≡ v = same_value n-was norm-is.0 in
    let n-below : n < size f = subst (λ (k : ℕ). k < size f) (sym n-is) norm-is.1 in
    let o_is : o ≡ f.reciprocal n = same_value o-was (inverse-is ∙ ok_one (size f) n (f.reciprocal n) n-below) in
    let some : f.reciprocal n ≡ Some i = sym o_is ∙ found in
    (ap f.reciprocal (sym n-is) ∙ some, found_below f laws n i n-below some)
