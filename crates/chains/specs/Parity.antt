-- In how many places two words differ, and the exclusive or of each. Assumes nothing.
use Rattle.std.specs.Prelude.{◌≡◌, ℕ, zero, suc, ◌+◌, ◌%◌, ◌<◌, Bool, true, false, cond, List, [], ◌∷◌, ◌++◌, length, take, ◌==◌, bit_xor, slice_index, refl}
use Rattle.std.proofs.Common.{ap, ap₂, ◌∙◌, arith}
use Rattle.std.specs.List.{AllByRecursion}
use Rattle.std.proofs.lemmas.List.{take_more}
use Rattle.std.proofs.lemmas.Bool.{eqb-true}
use Rattle.words.specs.Distance.{differences}
use Rattle.chains.specs.Bits.{total}

pub total_append : (xs ys : List ℕ) → total (xs ++ ys) ≡ total xs + total ys
total_append [] ys = omega arith
total_append (x ∷ xs) ys = omega (arith, total_append xs ys)

-- one bit more of a row
pub total_more : (xs : List ℕ) (i : ℕ) → i < length xs → total (take (i + 1) xs) ≡ total (take i xs) + slice_index xs i
total_more xs i h = ap total (take_more xs i 0 h) ∙ total_append (take i xs) (slice_index xs i ∷ []) ∙ omega arith

pub xor_bit : (x y : ℕ) → x < 2 → y < 2 → bit_xor x y ≡ (x + y) % 2
xor_bit zero zero hx hy = refl
xor_bit zero (suc zero) hx hy = refl
xor_bit (suc zero) zero hx hy = refl
xor_bit (suc zero) (suc zero) hx hy = refl
xor_bit zero (suc (suc y)) hx hy = absurd (omega arith)
xor_bit (suc zero) (suc (suc y)) hx hy = absurd (omega arith)
xor_bit (suc (suc x)) y hx hy = absurd (omega arith)

differ_at : (x y : ℕ) → x < 2 → y < 2 → (x + y + cond (x == y) 0 1) % 2 ≡ 0
differ_at zero zero hx hy = refl
differ_at zero (suc zero) hx hy = refl
differ_at (suc zero) zero hx hy = refl
differ_at (suc zero) (suc zero) hx hy = refl
differ_at zero (suc (suc y)) hx hy = absurd (omega arith)
differ_at (suc zero) (suc (suc y)) hx hy = absurd (omega arith)
differ_at (suc (suc x)) y hx hy = absurd (omega arith)

-- words of as many cells differ in an odd number of them exactly where their exclusive ors differ
pub differences_parity : (u v : List ℕ) → length u ≡ length v → AllByRecursion (λ b. b < 2) u → AllByRecursion (λ b. b < 2) v → (total u + total v + differences u v) % 2 ≡ 0
differences_parity [] [] l a b = refl
differences_parity [] (y ∷ v) l a b = absurd (omega arith)
differences_parity (x ∷ u) [] l a b = absurd (omega arith)
differences_parity (x ∷ u) (y ∷ v) l a b =
    omega (arith, differ_at x y a.0 b.0, differences_parity u v (omega arith) a.1 b.1)

-- words that differ nowhere are the same
pub same_from_differences : (u v : List ℕ) → length u ≡ length v → differences u v ≡ 0 → u ≡ v
same_from_differences [] [] l e = refl
same_from_differences [] (y ∷ v) l e = absurd (omega arith)
same_from_differences (x ∷ u) [] l e = absurd (omega arith)
same_from_differences (x ∷ u) (y ∷ v) l e = by_test (same_from_differences u v (omega arith)) (x == y) (eqb-true x y) e
  where
    by_test : (differences u v ≡ 0 → u ≡ v) → (t : Bool) → (t ≡ true → x ≡ y) → cond t 0 1 + differences u v ≡ 0 → x ∷ u ≡ y ∷ v
    by_test rest true same none = ap₂ ◌∷◌ (same refl) (rest (omega arith))
    by_test rest false same none = absurd (omega arith)
