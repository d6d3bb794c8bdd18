-- Harm against one reading keeps words apart that differ in many places. Assumes nothing.
use Rattle.std.proofs.Common.{◌≡◌, ℕ, suc, ◌+◌, ◌*◌, ◌≤◌, Bool, true, false, cond, eqb, List, [], ◌∷◌, length, sym, refl, ◌∙◌, arith}
use Rattle.std.proofs.lemmas.Bool.{eqb-true, eq-eqb}
use Rattle.words.specs.Distance.{differences}
use Rattle.words.specs.Harm.{harm, harm_at}

-- a readable place is wrong against one of two symbols that differ, and a blank one counts against both
apart_at : (w m a b : ℕ) → 2 * cond (eqb a b) 0 1 ≤ harm_at w m a + harm_at w m b
apart_at w m a b = by_tests (eqb m 0) (eqb w a) (eqb w b) (eqb a b) (λ p q. eq-eqb a b (sym (eqb-true w a p) ∙ eqb-true w b q))
  where
    by_tests : (t u v d : Bool) → (u ≡ true → v ≡ true → d ≡ true) → 2 * cond d 0 1 ≤ cond t (cond u 0 2) 1 + cond t (cond v 0 2) 1
    by_tests t u v true same = omega arith
    by_tests false u v false same = omega arith
    by_tests true false v false same = omega arith
    by_tests true true false false same = omega arith
    by_tests true true true false same = let no : false ≡ true = same refl refl in let z : ◌≡◌ {A = ℕ} 0 1 = cc in omega arith

pub harms_apart : (w m a b : List ℕ) → length m ≡ length w → length a ≡ length w → length b ≡ length w → 2 * differences a b ≤ harm w m a + harm w m b
harms_apart w m [] b lm la lb = omega arith
harms_apart w m (x ∷ a) [] lm la lb = omega arith
harms_apart [] m (x ∷ a) (y ∷ b) lm la lb = absurd (omega arith)
harms_apart (s ∷ w) [] (x ∷ a) (y ∷ b) lm la lb = absurd (omega arith)
harms_apart (s ∷ w) (k ∷ m) (x ∷ a) (y ∷ b) lm la lb =
    omega (arith, apart_at s k x y, harms_apart w m a b (omega arith) (omega arith) (omega arith))

pub differences_le : (a b : List ℕ) → differences a b ≤ length a
differences_le [] b = omega arith
differences_le (x ∷ a) [] = omega arith
differences_le (x ∷ a) (y ∷ b) = elim (eqb x y) as (λ t. cond t 0 1 + differences a b ≤ suc (length a)) [ true ↦ omega (arith, differences_le a b) | false ↦ omega (arith, differences_le a b) ]
