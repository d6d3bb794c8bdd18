-- Commutative rings and fields of characteristic two, in which each element is its own opposite. Assumes nothing.
use Rattle.std.specs.Prelude.{◌≡◌, Bool, true, false, ◌≢◌}

pub record Ring : Type 1 where
  pub carrier : Type 0
  pub zero : carrier
  pub one : carrier
  pub add : carrier → carrier → carrier
  pub mul : carrier → carrier → carrier
  pub add_assoc : (x y z : carrier) → add (add x y) z ≡ add x (add y z)
  pub add_comm : (x y : carrier) → add x y ≡ add y x
  pub zero-add : (x : carrier) → add zero x ≡ x
  pub add_self : (x : carrier) → add x x ≡ zero
  pub mul_assoc : (x y z : carrier) → mul (mul x y) z ≡ mul x (mul y z)
  pub mul_comm : (x y : carrier) → mul x y ≡ mul y x
  pub one-mul : (x : carrier) → mul one x ≡ x
  pub mul-add : (x y z : carrier) → mul x (add y z) ≡ add (mul x y) (mul x z)

-- `inv zero` is any element
pub record Field : Type 1 where
  pub ring : Ring
  pub inv : ring.carrier → ring.carrier
  pub mul_inv : (x : ring.carrier) → x ≢ ring.zero → ring.mul x (inv x) ≡ ring.one
  pub zero_one : ring.zero ≢ ring.one
  pub same? : (x y : ring.carrier) → Dec (x ≡ y)

abbrev pub same : (F : Field) → F.ring.carrier → F.ring.carrier → Bool
same F x y = elim (F.same? x y) [ yes h ↦ true | no h ↦ false ]
