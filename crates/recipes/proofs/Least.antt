-- The least of a row of numbers, as an iterator finds it. Assumes nothing.
use Rattle.std.proofs.Common.{◌≡◌, ℕ, min, List, [], ◌∷◌, refl}
use Rattle.std.specs.List.{fold}
use Rattle.recipes.specs.Totals.{least}

folded : (m : ℕ) (xs : List ℕ) → fold min m xs ≡ least m xs
folded m [] = refl
folded m (x ∷ xs) = folded (min m x) xs
