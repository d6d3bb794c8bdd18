-- A model with its laws, as a field over its elements, whose laws have no premise. Assumes nothing.
use Rattle.std.proofs.Common.{◌≡◌, ℕ, ◌<◌, ◌≢◌, ap, ◌∙◌, arith, pow_pos}
use mathlib.Core.HLevel.{Σ_prop_path}
use native.Mathlib.Bridge.{le_prop}
use native.Mathlib.Decide.{ℕ_discrete}
use Rattle.std.proofs.lemmas.Nat.{pow_below}
use Rattle.algebra.specs.Field.{Ring, Field}
use Rattle.field_laws.specs.Fields.{FieldModel, FieldLaws, size}

abbrev pub Element : FieldModel → Type 0
Element f = (a : ℕ) × (a < size f)

pub element_path : (f : FieldModel) (x y : Element f) → x.0 ≡ y.0 → x ≡ y
element_path f x y e = Σ_prop_path (λ a. le_prop) e

module _ (f : FieldModel) (laws : FieldLaws f) where
  abbrev pub zero_of : Element f
  zero_of = (0, pow_pos f.width)

  abbrev pub one_of : Element f
  one_of = (1, pow_below 0 f.width laws.width_least)

  abbrev pub sum_of : Element f → Element f → Element f
  sum_of x y = (f.sum x.0 y.0, laws.sum_below x.0 y.0 x.1 y.1)

  abbrev pub product_of : Element f → Element f → Element f
  product_of x y = (f.product x.0 y.0, laws.product_below x.0 y.0 x.1 y.1)

  abbrev pub ring_of : Ring
  ring_of = record {
    carrier = Element f;
    zero = zero_of;
    one = one_of;
    add = sum_of;
    mul = product_of;
    add_assoc = λ x y z. element_path f _ _ (laws.sum_assoc x.0 y.0 z.0 x.1 y.1 z.1);
    add_comm = λ x y. element_path f _ _ (laws.sum_comm x.0 y.0 x.1 y.1);
    zero-add = λ x. element_path f _ _ (laws.sum_comm 0 x.0 zero_of.1 x.1 ∙ laws.sum_zero x.0 x.1);
    add_self = λ x. element_path f _ _ (laws.sum_self x.0 x.1);
    mul_assoc = λ x y z. element_path f _ _ (laws.product_assoc x.0 y.0 z.0 x.1 y.1 z.1);
    mul_comm = λ x y. element_path f _ _ (laws.product_comm x.0 y.0 x.1 y.1);
    one-mul = λ x. element_path f _ _ (laws.product_comm 1 x.0 one_of.1 x.1 ∙ laws.product_one x.0 x.1);
    mul-add = λ x y z. element_path f _ _ (laws.distributes x.0 y.0 z.0 x.1 y.1 z.1);
  }

  -- the reciprocal of an element that is not zero
  pub reciprocal_by : (x : Element f) → Dec (x.0 ≡ 0) → Element f
  reciprocal_by x (yes e) = zero_of
  reciprocal_by x (no apart) = let t = laws.some_of_others x.0 x.1 apart in (t.0, t.1)

  pub reciprocal_of : Element f → Element f
  reciprocal_of x = reciprocal_by x (ℕ_discrete x.0 0)

  product_reciprocal : (x : Element f) (d : Dec (x.0 ≡ 0)) → x ≢ zero_of → product_of x (reciprocal_by x d) ≡ one_of
  unfolding reciprocal_by
  product_reciprocal x (yes e) apart = absurd (apart (element_path f x zero_of e))
  product_reciprocal x (no n) apart = element_path f _ _ (laws.some_of_others x.0 x.1 n).3

  pub times_reciprocal : (x : Element f) → x ≢ zero_of → product_of x (reciprocal_of x) ≡ one_of
  unfolding reciprocal_of
  times_reciprocal x apart = product_reciprocal x (ℕ_discrete x.0 0) apart

  same_element : (x y : Element f) → Dec (x.0 ≡ y.0) → Dec (x ≡ y)
  same_element x y (yes e) = yes (element_path f x y e)
  same_element x y (no n) = no (λ e. n (ap (λ (z : Element f). z.0) e))

  pub same_elements : (x y : Element f) → Dec (x ≡ y)
  same_elements x y = same_element x y (ℕ_discrete x.0 y.0)

  abbrev pub field_of : Field
  field_of = record {
    ring = ring_of;
    inv = reciprocal_of;
    mul_inv = times_reciprocal;
    zero_one = λ e. let z : ◌≡◌ {A = ℕ} 0 1 = ap (λ (x : Element f). x.0) e in absurd (omega arith);
    same? = same_elements;
  }
