-- The polynomial field of each width: the bits of a number are coefficients, and products are reduced by a fixed polynomial.
-- Assumes nothing.
use Rattle.std.specs.Prelude.{◌≡◌, ℕ, zero, suc, ◌-◌, ◌*◌, ◌/◌, ◌%◌, ◌^◌, ◌<◌, Bool, cond, List, [], ◌∷◌, Some, None, Option, bit_xor, nat_eq, slice_index}
use Rattle.field_laws.specs.Fields.{FieldModel}

-- the polynomials that the fields of width 1 to 8 reduce by
abbrev pub moduli : List ℕ
moduli = 0x3 ∷ 0x7 ∷ 0xB ∷ 0x13 ∷ 0x25 ∷ 0x43 ∷ 0x89 ∷ 0x11D ∷ []

abbrev pub modulus : ℕ → ℕ
modulus m = slice_index moduli (m - 1)

-- a polynomial times the lowest coefficient of b
unfoldable pub gate : ℕ → ℕ → ℕ
gate b a = (b % 2) * a

-- a polynomial times X, less the modulus where it has grown to the degree m
unfoldable pub double : ℕ → ℕ → ℕ
double m a = bit_xor (2 * a) (gate (2 * a / 2 ^ m) (modulus m))

-- a times the n lowest coefficients of b: b's lowest one times a, plus X times what the others give
unfoldable pub times : ℕ → ℕ → ℕ → ℕ → ℕ
times m zero a b = 0
times m (suc n) a b = bit_xor (gate b a) (double m (times m n a (b / 2)))

-- the product of two polynomials, with no reduction: b's lowest coefficient times a, plus X times what the n others give
unfoldable pub carryless : ℕ → ℕ → ℕ → ℕ
carryless zero a b = 0
carryless (suc n) a b = bit_xor ((b % 2) * a) (2 * carryless n a (b / 2))

-- p is a·b less a multiple of the modulus, and has m coefficients
abbrev pub Reduced : (m a b p : ℕ) → Type 0
Reduced m a b p = (p < 2 ^ m) × ((d : ℕ) × (d < 2 ^ m) × (carryless m a b ≡ bit_xor p (carryless m (modulus m) d)))

-- the number below n that passes the test, if there is one
unfoldable pub seek : (ℕ → Bool) → ℕ → Option ℕ
seek p zero = None
seek p (suc n) = cond (p n) (Some n) (seek p n)

abbrev pub polynomial : ℕ → FieldModel
polynomial m = record {
  width = m;
  sum = bit_xor;
  product = times m m;
  reciprocal = λ a. seek (λ b. nat_eq (times m m a b) 1) (2 ^ m);
}
