-- The library's sum and fold are those of a row of bits. Assumes nothing.
use Rattle.std.proofs.Common.{◌≡◌, ℕ, ◌+◌, ◌%◌, ◌<◌, List, [], ◌∷◌, refl, ◌∙◌, arith}
use Rattle.std.specs.List.{AllByRecursion, fold, sum_by}
use Rattle.std.proofs.lemmas.List.Recursion.{is_sum_by}
use lib.Bits.{bit_xor}
use Rattle.chains.specs.Bits.{total, parity}
use Rattle.chains.specs.Parity.{xor_bit}

pub total_is : (bits : List ℕ) → total bits ≡ sum_by (λ x. x) bits
total_is = is_sum_by total (λ x. x) refl (λ _ _. refl)

odd_from : (odd : ℕ) (bits : List ℕ) → odd < 2 → AllByRecursion (λ b. b < 2) bits → fold bit_xor odd bits ≡ (odd + total bits) % 2
odd_from odd [] h a = omega arith
odd_from odd (b ∷ bits) h a =
    let here = xor_bit odd b h a.0 in
    odd_from (bit_xor odd b) bits (omega (arith, here)) a.1 ∙ omega (arith, here)

pub parity_is : (bits : List ℕ) (odd : ℕ) → AllByRecursion (λ b. b < 2) bits → odd ≡ fold bit_xor 0 bits → odd ≡ parity bits
parity_is bits odd a is = is ∙ odd_from 0 bits (omega arith) a ∙ omega arith
