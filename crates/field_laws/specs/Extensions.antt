-- The extension of a field by a root y of y·y = y + c: the number a + q·b stands for a + b·y, where q is the size of the field below.
-- Assumes nothing.
use Rattle.std.specs.Prelude.{ℕ, zero, suc, ◌+◌, ◌*◌, ◌/◌, ◌%◌, ◌<◌, ◌≤◌, Bool, true, not, ◌&&◌, Some, None, Option, ◌==◌, ◌≢◌, nat_le, nat_lt}
use Rattle.field_laws.specs.Fields.{FieldModel, size}

-- no element e has e·e + e = c
abbrev pub Rootless : FieldModel → ℕ → Type 0
Rootless f c = (e : ℕ) → e < size f → f.sum (f.product e e) e ≢ c

-- a field of at most 16 elements, one of them, c, and no root of y·y = y + c
pub record Extends (f : FieldModel) (c : ℕ) : Type 0 where
  pub narrow : f.width ≤ 4
  pub element : c < size f
  pub rootless : Rootless f c

-- the test of that: whether no number below n has e·e + e = c, and with it the other two
unfoldable pub rootless_below : FieldModel → (c n : ℕ) → Bool
rootless_below f c zero = true
rootless_below f c (suc n) = not (f.sum (f.product n n) n == c) && rootless_below f c n

abbrev pub extends : FieldModel → ℕ → Bool
extends f c = nat_le f.width 4 && (nat_lt c (size f) && rootless_below f c (size f))

-- a + b·y
abbrev pub joined : FieldModel → ℕ → ℕ → ℕ
joined f a b = a + size f * b

-- (a + b·y)·(u + v·y) = (a·u + c·(b·v)) + ((a·v + b·u) + b·v)·y
abbrev pub joined_product : FieldModel → (c a b u v : ℕ) → ℕ
joined_product f c a b u v =
    joined f (f.sum (f.product a u) (f.product c (f.product b v)))
    (f.sum (f.sum (f.product a v) (f.product b u)) (f.product b v))

-- (a + b·y)·((a + b) + b·y) = a·(a + b) + c·(b·b)
abbrev pub norm : FieldModel → (c a b : ℕ) → ℕ
norm f c a b = f.sum (f.product a (f.sum a b)) (f.product c (f.product b b))

-- ((a + b) + b·y) times the norm's reciprocal
abbrev pub joined_reciprocal : FieldModel → (a b : ℕ) → Option ℕ → Option ℕ
joined_reciprocal f a b None = None
joined_reciprocal f a b (Some i) = Some (joined f (f.product i (f.sum a b)) (f.product i b))

abbrev pub extension : FieldModel → ℕ → FieldModel
extension f c = record {
  width = 2 * f.width;
  sum = λ x y. joined f (f.sum (x % size f) (y % size f)) (f.sum (x / size f) (y / size f));
  product = λ x y. joined_product f c (x % size f) (x / size f) (y % size f) (y / size f);
  reciprocal = λ x. joined_reciprocal f (x % size f) (x / size f) (f.reciprocal (norm f c (x % size f) (x / size f)));
}
