-- What a field is. Its elements are the numbers below 2 to the power of its width. Assumes nothing.
use Rattle.std.specs.Prelude.{◌≡◌, ℕ, ◌^◌, ◌<◌, ◌≤◌, Some, None, Option, ◌≢◌}

pub record FieldModel : Type 0 where
  pub width : ℕ
  pub sum : ℕ → ℕ → ℕ
  pub product : ℕ → ℕ → ℕ
  pub reciprocal : ℕ → Option ℕ

-- how many elements there are
abbrev pub size : FieldModel → ℕ
size f = 2 ^ f.width

-- the laws of a commutative field in which x + x = 0, with 0 for zero and 1 for one
pub record FieldLaws (f : FieldModel) : Type 0 where
  pub width_least : 1 ≤ f.width
  pub width_most : f.width ≤ 8
  pub sum_below : (a b : ℕ) → a < size f → b < size f → f.sum a b < size f
  pub sum_comm : (a b : ℕ) → a < size f → b < size f → f.sum a b ≡ f.sum b a
  pub sum_assoc : (a b c : ℕ) → a < size f → b < size f → c < size f → f.sum (f.sum a b) c ≡ f.sum a (f.sum b c)
  pub sum_zero : (a : ℕ) → a < size f → f.sum a 0 ≡ a
  pub sum_self : (a : ℕ) → a < size f → f.sum a a ≡ 0
  pub product_below : (a b : ℕ) → a < size f → b < size f → f.product a b < size f
  pub product_comm : (a b : ℕ) → a < size f → b < size f → f.product a b ≡ f.product b a
  pub product_assoc : (a b c : ℕ) → a < size f → b < size f → c < size f → f.product (f.product a b) c ≡ f.product a (f.product b c)
  pub product_one : (a : ℕ) → a < size f → f.product a 1 ≡ a
  pub distributes : (a b c : ℕ) → a < size f → b < size f → c < size f → f.product a (f.sum b c) ≡ f.sum (f.product a b) (f.product a c)
  pub none_of_zero : f.reciprocal 0 ≡ None
  pub some_of_others : (a : ℕ) → a < size f → (a ≢ 0) → (b : ℕ) × (b < size f) × (f.reciprocal a ≡ Some b) × (f.product a b ≡ 1)
