-- What the laws of a ring and of a field give. Assumes nothing.
use Rattle.std.proofs.Common.{◌≡◌, true, false, ◌≢◌, ◌⊎◌, sym, refl, ap, ◌∙◌, inl, inr}
use mathlib.Core.HLevel.{hedberg}
use Rattle.std.proofs.lemmas.Bool.{true≢false}
use Rattle.algebra.specs.Field.{Ring, Field, same}

module _ (R : Ring) where
  open R use {carrier, zero, one, add, mul}

  pub add-zero : (x : carrier) → add x zero ≡ x
  add-zero x = R.add_comm x zero ∙ R.zero-add x

  pub mul_one : (x : carrier) → mul x one ≡ x
  mul_one x = R.mul_comm x one ∙ R.one-mul x

  pub add-mul : (x y z : carrier) → mul (add x y) z ≡ add (mul x z) (mul y z)
  add-mul x y z = R.mul_comm (add x y) z ∙ R.mul-add z x y ∙ cc (R.mul_comm z x, R.mul_comm z y)

  -- a term added twice is gone
  pub add_add : (x y : carrier) → add x (add x y) ≡ y
  add_add x y = sym (R.add_assoc x x y) ∙ ap (λ s. add s y) (R.add_self x) ∙ R.zero-add y

  pub same_from_zero : (x y : carrier) → add x y ≡ zero → x ≡ y
  same_from_zero x y e = sym (add-zero x) ∙ ap (add x) (sym e) ∙ add_add x y

  pub zero_from_same : (x y : carrier) → x ≡ y → add x y ≡ zero
  zero_from_same x y e = ap (λ s. add s y) e ∙ R.add_self y

  pub add_cancel : (x y z : carrier) → add x y ≡ add x z → y ≡ z
  add_cancel x y z e = sym (add_add x y) ∙ ap (add x) e ∙ add_add x z

  pub add_left_comm : (x y z : carrier) → add x (add y z) ≡ add y (add x z)
  add_left_comm x y z = sym (R.add_assoc x y z) ∙ ap (λ s. add s z) (R.add_comm x y) ∙ R.add_assoc y x z

  pub mul_left_comm : (x y z : carrier) → mul x (mul y z) ≡ mul y (mul x z)
  mul_left_comm x y z = sym (R.mul_assoc x y z) ∙ ap (λ s. mul s z) (R.mul_comm x y) ∙ R.mul_assoc y x z

  pub mul-zero : (x : carrier) → mul x zero ≡ zero
  mul-zero x = ap (mul x) (sym (R.add_self zero)) ∙ R.mul-add x zero zero ∙ R.add_self (mul x zero)

  pub zero-mul : (x : carrier) → mul zero x ≡ zero
  zero-mul x = R.mul_comm zero x ∙ mul-zero x

module _ (F : Field) where
  open F.ring use {carrier, zero, one, add, mul}
  open F use {inv}

  pub is_set : IsSet carrier
  is_set = hedberg F.same?

  -- division: what is multiplied by x, and then by its inverse
  pub inv_mul : (x y : carrier) → x ≢ zero → mul (inv x) (mul x y) ≡ y
  inv_mul x y h =
      sym (F.ring.mul_assoc (inv x) x y)
      ∙ ap (λ s. mul s y) (F.ring.mul_comm (inv x) x ∙ F.mul_inv x h)
      ∙ F.ring.one-mul y

  pub mul_inv_mul : (x y : carrier) → x ≢ zero → mul (mul y (inv x)) x ≡ y
  mul_inv_mul x y h =
      F.ring.mul_assoc y (inv x) x
      ∙ ap (mul y) (F.ring.mul_comm (inv x) x ∙ F.mul_inv x h)
      ∙ mul_one F.ring y

  pub mul_cancel : (x y z : carrier) → x ≢ zero → mul x y ≡ mul x z → y ≡ z
  mul_cancel x y z h e = sym (inv_mul x y h) ∙ ap (mul (inv x)) e ∙ inv_mul x z h

  pub other_zero : (x y : carrier) → x ≢ zero → mul x y ≡ zero → y ≡ zero
  other_zero x y h e = mul_cancel x y zero h (e ∙ sym (mul-zero F.ring x))

  pub no_zero_divisors : (x y : carrier) → mul x y ≡ zero → (x ≡ zero) ⊎ (y ≡ zero)
  no_zero_divisors x y e = elim (F.same? x zero) [ yes h ↦ inl h | no h ↦ inr (other_zero x y h e) ]

  pub mul_ne_zero : (x y : carrier) → x ≢ zero → y ≢ zero → mul x y ≢ zero
  mul_ne_zero x y h k e = k (other_zero x y h e)

  pub inv_ne_zero : (x : carrier) → x ≢ zero → inv x ≢ zero
  inv_ne_zero x h e = F.zero_one (sym (mul-zero F.ring x) ∙ ap (mul x) (sym e) ∙ F.mul_inv x h)

  pub same_true : (x y : carrier) → same F x y ≡ true → x ≡ y
  same_true x y = from (F.same? x y)
    where
      from : (d : Dec (x ≡ y)) → elim d [ yes h ↦ true | no h ↦ false ] ≡ true → x ≡ y
      from (yes h) e = h
      from (no h) e = absurd (true≢false (sym e))

  pub eq_same : (x y : carrier) → x ≡ y → same F x y ≡ true
  eq_same x y e = from (F.same? x y)
    where
      from : (d : Dec (x ≡ y)) → elim d [ yes h ↦ true | no h ↦ false ] ≡ true
      from (yes h) = refl
      from (no h) = absurd (h e)

  pub ne_same : (x y : carrier) → x ≢ y → same F x y ≡ false
  ne_same x y n = from (F.same? x y)
    where
      from : (d : Dec (x ≡ y)) → elim d [ yes h ↦ true | no h ↦ false ] ≡ false
      from (yes h) = absurd (n h)
      from (no h) = refl
