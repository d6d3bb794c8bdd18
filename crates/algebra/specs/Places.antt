-- Polynomials by their values at places: elements of a ring that are numbered from 0. Assumes nothing.
use Rattle.std.specs.Prelude.{◌≡◌, ℕ, ◌<◌, ◌≤◌, List, length}
use Rattle.algebra.specs.Field.{Ring, Field, same}
use Rattle.algebra.specs.Poly.{value}
use Rattle.algebra.specs.Sums.{count}

-- some polynomial of at most k coefficients has the values v at the first n places
pub record Polynomial (R : Ring) (place : ℕ → R.carrier) (n k : ℕ) (v : ℕ → R.carrier) : Type 0 where
  pub coefficients : List R.carrier
  pub short : length coefficients ≤ k
  pub values : (j : ℕ) → j < n → value R coefficients (place j) ≡ v j

-- at how many of the first n places v and w agree, and v vanishes
module _ (F : Field) (n : ℕ) where
  abbrev pub agreements : (v w : ℕ → F.ring.carrier) → ℕ
  agreements v w = count (λ j. same F (v j) (w j)) n

  abbrev pub zeros : (v : ℕ → F.ring.carrier) → ℕ
  zeros v = agreements v (λ j. F.ring.zero)
