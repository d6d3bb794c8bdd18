-- The key equation of decoding by values: pairs of polynomials q and e with q = t·e at every place passed. Assumes nothing.
use Rattle.std.specs.Prelude.{◌≡◌, ℕ, ◌<◌}
use Rattle.algebra.specs.Field.{Field}
use Rattle.algebra.specs.Places.{Polynomial}

module _ (F : Field) (place : ℕ → F.ring.carrier) (n : ℕ) (t : ℕ → F.ring.carrier) where
  open F.ring use {carrier, zero, add, mul}

  -- a pair that meets the equation at the places passed
  pub record Pair (Passed : ℕ → Type 0) (q e : ℕ → carrier) (b c : ℕ) : Type 0 where
    pub top : Polynomial F.ring place n b q
    pub bottom : Polynomial F.ring place n c e
    pub meets : (j : ℕ) → j < n → Passed j → q j ≡ mul (t j) (e j)

  -- by how much a pair misses the equation at x
  abbrev pub gap : (q e : ℕ → carrier) → ℕ → carrier
  gap q e x = add (q x) (mul (t x) (e x))

-- the two pairs are independent at a place
abbrev pub cross : (F : Field) (q₀ e₀ q₁ e₁ : ℕ → F.ring.carrier) → ℕ → F.ring.carrier
cross F q₀ e₀ q₁ e₁ j = F.ring.add (F.ring.mul (q₀ j) (e₁ j)) (F.ring.mul (q₁ j) (e₀ j))

-- a times one array plus b times another
abbrev pub combined : (F : Field) (a : F.ring.carrier) (v : ℕ → F.ring.carrier) (b : F.ring.carrier) (w : ℕ → F.ring.carrier) → ℕ → F.ring.carrier
combined F a v b w j = F.ring.add (F.ring.mul a (v j)) (F.ring.mul b (w j))

-- an array times X + x
abbrev pub rooted : (F : Field) (place : ℕ → F.ring.carrier) (x : ℕ) (v : ℕ → F.ring.carrier) → ℕ → F.ring.carrier
rooted F place x v j = F.ring.mul (F.ring.add (place j) (place x)) (v j)
