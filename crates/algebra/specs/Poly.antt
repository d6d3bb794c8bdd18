-- Polynomials over a ring, as lists of coefficients, the lowest first. Assumes nothing.
use Rattle.std.specs.Prelude.{List, [], ◌∷◌, map}
use Rattle.algebra.specs.Field.{Ring}

module _ (R : Ring) where
  open R use {carrier, zero, add, mul}

  abbrev pub value : List carrier → carrier → carrier
  value [] z = zero
  value (c ∷ p) z = add c (mul z (value p z))

  abbrev pub plus : List carrier → List carrier → List carrier
  plus [] q = q
  plus (a ∷ p) [] = a ∷ p
  plus (a ∷ p) (b ∷ q) = add a b ∷ plus p q

  abbrev pub scaled : carrier → List carrier → List carrier
  scaled c p = map (mul c) p

  abbrev pub times : List carrier → List carrier → List carrier
  times [] q = []
  times (a ∷ p) q = plus (scaled a q) (zero ∷ times p q)

  -- (X + x)·p, which has the roots of p and x
  abbrev pub with_root : carrier → List carrier → List carrier
  with_root x p = plus (scaled x p) (zero ∷ p)

  -- (X + x) goes into c + X·p with this quotient: the values at x of p and of what is left of p as its lowest coefficients are dropped
  abbrev pub quotient : carrier → List carrier → List carrier
  quotient x [] = []
  quotient x (d ∷ p) = value (d ∷ p) x ∷ quotient x p
