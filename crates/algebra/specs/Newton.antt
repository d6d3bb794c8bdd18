-- Newton's interpolation by values: one chosen place after another is brought to the symbol that is wanted there. Assumes nothing.
use Rattle.std.specs.Prelude.{◌≡◌, ℕ, ◌+◌, ◌<◌}
use Rattle.algebra.specs.Field.{Field}
use Rattle.algebra.specs.Places.{Polynomial}

-- k places are chosen: v takes the symbols y there, and p vanishes there and nowhere else, as the product of X + x over them does
pub record Newton (F : Field) (place : ℕ → F.ring.carrier) (n : ℕ) (Chosen : ℕ → Type 0) (y : ℕ → F.ring.carrier) (k : ℕ) (v p : ℕ → F.ring.carrier) : Type 0 where
  pub interpolant : Polynomial F.ring place n k v
  pub product : Polynomial F.ring place n (k + 1) p
  pub takes : (j : ℕ) → j < n → Chosen j → v j ≡ y j
  pub vanishes : (j : ℕ) → j < n → Chosen j → p j ≡ F.ring.zero
  pub only : (j : ℕ) → j < n → p j ≡ F.ring.zero → Chosen j

module _ (F : Field) (y v p : ℕ → F.ring.carrier) (x : ℕ) where
  open F.ring use {carrier, add, mul}

  -- the multiple of the product that brings v to the symbol y at the place x
  abbrev pub correction : carrier
  correction = mul (add (y x) (v x)) (F.inv (p x))

  abbrev pub next_interpolant : ℕ → carrier
  next_interpolant j = add (v j) (mul correction (p j))

abbrev pub next_product : (F : Field) (place p : ℕ → F.ring.carrier) (x : ℕ) → ℕ → F.ring.carrier
next_product F place p x j = F.ring.mul (F.ring.add (place j) (place x)) (p j)

-- j is one of the first k places of the choice
abbrev pub Among : (choice : ℕ → ℕ) (k j : ℕ) → Type 0
Among choice k j = (i : ℕ) × (i < k) × (choice i ≡ j)
