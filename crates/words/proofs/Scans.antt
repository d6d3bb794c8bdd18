-- One step of a scan for the first refusal. Assumes nothing.
use Rattle.std.proofs.Common.{◌≡◌, ℕ, suc, ◌+◌, ◌<◌, ◌≤◌, cond, true, false, List, [], ◌∷◌, map, length, drop, Some, None, Option, refl, sym, ap, ◌∙◌, add-one, le-ltb, lt-ltb, leb}
use mathlib.Core.Logic.{◌⊎◌, inl, inr}
use Rattle.std.specs.List.{position_from}
use Rattle.std.specs.Option.{option_map}
use Rattle.std.proofs.lemmas.Bool.Decides.{leb_tells}
use Rattle.std.proofs.lemmas.List.{at_drop_all}
use Rattle.words.specs.declared.fault.Fault.{Fault}
use Rattle.words.specs.declared.fault.Kind.TheVariants.{TooLarge}
use Rattle.words.specs.declared.fault.Layer.{Layer}
use Rattle.words.specs.Buffers.{Given, first_large, first_of}
use Rattle.words.specs.Faults.{fault}

-- the first value that is too large, by its position
pub large_at : (layer : Layer) (bound i : ℕ) (xs : List ℕ) → first_large layer bound i xs ≡ option_map (fault TooLarge layer) (position_from (λ x. leb bound x) i xs)
large_at layer bound i [] = refl
large_at layer bound i (x ∷ xs) =
    let rest : first_large layer bound (suc i) xs ≡ option_map (fault TooLarge layer) (position_from (λ x. leb bound x) (i + 1) xs) =
    ap (λ k. first_large layer bound k xs) (sym (add-one i)) ∙ large_at layer bound (i + 1) xs in
    by_size (leb_tells bound x) rest
  where
    by_size : ((leb bound x ≡ true) × (bound ≤ x)) ⊎ ((leb bound x ≡ false) × (x < bound)) → first_large layer bound (suc i) xs ≡ option_map (fault TooLarge layer) (position_from (λ x. leb bound x) (i + 1) xs) → first_large layer bound i (x ∷ xs) ≡ option_map (fault TooLarge layer) (position_from (λ x. leb bound x) i (x ∷ xs))
    by_size (inl large) rest =
        ap (λ t. cond t (first_large layer bound (suc i) xs) (Some (fault TooLarge layer i))) (le-ltb _ _ large.1)
        ∙ sym (ap (λ t. option_map (fault TooLarge layer) (cond t (Some i) (position_from (λ x. leb bound x) (i + 1) xs))) large.0)
    by_size (inr small) rest =
        ap (λ t. cond t (first_large layer bound (suc i) xs) (Some (fault TooLarge layer i))) (lt-ltb _ _ small.1)
        ∙ rest
        ∙ sym (ap (λ t. option_map (fault TooLarge layer) (cond t (Some i) (position_from (λ x. leb bound x) (i + 1) xs))) small.0)

pub first_none : {X : Type 0} (f : Given → Option Fault) (g : X → Given) (xs : List X) (i : ℕ) → length xs ≤ i → first_of f (map g (drop i xs)) ≡ None
first_none f g xs i h = at_drop_all (λ ys. first_of f (map g ys)) xs i h
