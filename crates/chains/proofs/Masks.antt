-- Words as numbers: what a program's bitwise operations do to their rows of bits. Assumes nothing.
use Rattle.std.proofs.Common.{◌≡◌, ℕ, zero, suc, ◌+◌, ◌*◌, ◌/◌, ◌%◌, ◌^◌, ◌<◌, ◌≤◌, min, max, cond, eqb, List, [], ◌∷◌, length, sym, refl, ap, ◌∙◌, subst, ap₂, lt_of_le_of_lt, mod-lt, mod-eq_of_lt, arith, pow_mono, pow_pos, shr_lt}
use native.Mathlib.Nat.{zero-div}
use lib.Bits.{bit_and, bit_or, bit_xor, and_shr, or_shr, xor_shr, and_mod, or_mod, xor_mod, and_le_r, or_lt}
use lib.Count.{ones, ones_in, ones_cat}
use lib.Pow.{split}
use Rattle.chains.specs.Bits.{bits_of, spelled, total}
use Rattle.chains.specs.Model.{Cells}
use Rattle.chains.specs.Votes.{meet, added, left_harm}
use Rattle.chains.specs.Parity.{xor_bit}
use Rattle.chains.specs.Spelling.{same_bits, spelled_bits, spelled_small, bits_spelled}

-- cells, or their marks, as one number
pub packed : (n r : ℕ) (cells : List ℕ) → n ≤ 16 → Cells n cells → r ≡ spelled cells % 65536 → (bits_of n r ≡ cells) × (r < 2 ^ n)
packed n r cells few fc e =
    let small = subst (λ (k : ℕ). spelled cells < 2 ^ k) fc.0 (spelled_small cells fc.1) in
    let whole : r ≡ spelled cells = e ∙ mod-eq_of_lt (omega (arith, small, pow_mono {i = n} {j = 16} few)) in
    (ap₂ bits_of (sym fc.0) whole ∙ bits_spelled cells fc.1, subst (λ (x : ℕ). x < 2 ^ n) (sym whole) small)

and_bit : (x y : ℕ) → x < 2 → y < 2 → bit_and x y ≡ min y x
and_bit zero zero hx hy = refl
and_bit zero (suc zero) hx hy = refl
and_bit (suc zero) zero hx hy = refl
and_bit (suc zero) (suc zero) hx hy = refl
and_bit zero (suc (suc y)) hx hy = absurd (omega arith)
and_bit (suc zero) (suc (suc y)) hx hy = absurd (omega arith)
and_bit (suc (suc x)) y hx hy = absurd (omega arith)

or_bit : (x y : ℕ) → x < 2 → y < 2 → bit_or x y ≡ max x y
or_bit zero zero hx hy = refl
or_bit zero (suc zero) hx hy = refl
or_bit (suc zero) zero hx hy = refl
or_bit (suc zero) (suc zero) hx hy = refl
or_bit zero (suc (suc y)) hx hy = absurd (omega arith)
or_bit (suc zero) (suc (suc y)) hx hy = absurd (omega arith)
or_bit (suc (suc x)) y hx hy = absurd (omega arith)

pub xor_bits : (k x y : ℕ) → bits_of k (bit_xor x y) ≡ added (bits_of k x) (bits_of k y)
xor_bits zero x y = refl
xor_bits (suc k) x y =
    let head : bit_xor x y / 2 ^ k % 2 ≡ (x / 2 ^ k % 2 + y / 2 ^ k % 2) % 2 = ap (λ n. n % 2) (xor_shr x y k) ∙ xor_mod (x / 2 ^ k) (y / 2 ^ k) 1 ∙ xor_bit (x / 2 ^ k % 2) (y / 2 ^ k % 2) (omega arith) (omega arith) in
    ap₂ ◌∷◌ head (xor_bits k x y)

-- how many bits of a number are ones
ones_small : (x : ℕ) → x < 2 → ones x ≡ x
unfolding ones ones_in
ones_small zero h = refl
ones_small (suc zero) h = refl
ones_small (suc (suc x)) h = absurd (omega arith)

pub ones_bits : (k x : ℕ) → x < 2 ^ k → ones x ≡ total (bits_of k x)
ones_bits zero x h = let none : x ≡ 0 = omega arith in ap ones none ∙ ones_small 0 (omega arith)
ones_bits (suc k) x h =
    let q = x / 2 ^ k in
    let low = x % 2 ^ k in
    let below = mod-lt x {m = 2 ^ k} (pow_pos k) in
    let more : suc k ≡ 1 + k = omega arith in
    let top : q < 2 = shr_lt {n = x} 1 k (subst (λ (j : ℕ). x < 2 ^ j) more h) in
    let bit : ones q ≡ q % 2 = ones_small q top ∙ omega arith in
    let rest : ones low ≡ total (bits_of k x) = ones_bits k low below ∙ ap total (same_bits k low x (mod-eq_of_lt below)) in
    ap ones (sym (split x k)) ∙ ones_cat k q low below ∙ ap₂ ◌+◌ bit rest

pub and_meet : (k x m : ℕ) → total (bits_of k (bit_and x m)) ≡ meet (bits_of k m) (bits_of k x)
and_meet zero x m = refl
and_meet (suc k) x m =
    let head : bit_and x m / 2 ^ k % 2 ≡ min (m / 2 ^ k % 2) (x / 2 ^ k % 2) = ap (λ n. n % 2) (and_shr x m k) ∙ and_mod (x / 2 ^ k) (m / 2 ^ k) 1 ∙ and_bit (x / 2 ^ k % 2) (m / 2 ^ k % 2) (omega arith) (omega arith) in
    ap₂ ◌+◌ head (and_meet k x m)

hurt_at : (x k : ℕ) → x < 2 → k < 2 → cond (eqb k 0) (2 * x) 1 + k ≡ 2 * max x k
hurt_at x zero hx hk = omega arith
hurt_at x (suc zero) hx hk = omega arith
hurt_at x (suc (suc k)) hx hk = absurd (omega arith)

or_left : (k x m : ℕ) → left_harm (bits_of k x) (bits_of k m) + total (bits_of k m) ≡ 2 * total (bits_of k (bit_or x m))
or_left zero x m = refl
or_left (suc k) x m =
    let head : bit_or x m / 2 ^ k % 2 ≡ max (x / 2 ^ k % 2) (m / 2 ^ k % 2) = ap (λ n. n % 2) (or_shr x m k) ∙ or_mod (x / 2 ^ k) (m / 2 ^ k) 1 ∙ or_bit (x / 2 ^ k % 2) (m / 2 ^ k % 2) (omega arith) (omega arith) in
    omega (arith, head, hurt_at (x / 2 ^ k % 2) (m / 2 ^ k % 2) (omega arith) (omega arith), or_left k x m)

-- the harm by what is left of a reading, in ones
pub harm_ones : (k x m : ℕ) → x < 2 ^ k → m < 2 ^ k → left_harm (bits_of k x) (bits_of k m) + ones m ≡ 2 * ones (bit_or x m)
harm_ones k x m hx hm = omega (arith, or_left k x m, ones_bits k m hm, ones_bits k (bit_or x m) (or_lt k x m hx hm))

-- the sum over a set, and whether it has a blank cell
pub ones_meet : (k x set : ℕ) → set < 2 ^ k → ones (bit_and x set) ≡ meet (bits_of k set) (bits_of k x)
ones_meet k x set h = ones_bits k (bit_and x set) (lt_of_le_of_lt (and_le_r x set) h) ∙ and_meet k x set

spelled_none : (bs : List ℕ) → total bs ≡ 0 → spelled bs ≡ 0
spelled_none [] e = refl
spelled_none (b ∷ bs) e =
    let none : b ≡ 0 = omega arith in
    ap (λ x. x * 2 ^ length bs + spelled bs) none ∙ omega (arith, spelled_none bs (omega arith))

pub none_meet : (k x set : ℕ) → set < 2 ^ k → meet (bits_of k set) (bits_of k x) ≡ 0 → bit_and x set ≡ 0
none_meet k x set h e =
    let small = lt_of_le_of_lt (and_le_r x set) h in
    sym (mod-eq_of_lt small) ∙ sym (spelled_bits k (bit_and x set)) ∙ spelled_none (bits_of k (bit_and x set)) (and_meet k x set ∙ e)

pub meet_none : (k x set : ℕ) → bit_and x set ≡ 0 → meet (bits_of k set) (bits_of k x) ≡ 0
meet_none k x set e = sym (and_meet k x set) ∙ ap (λ n. total (bits_of k n)) e ∙ zeros k
  where
    zeros : (j : ℕ) → total (bits_of j 0) ≡ 0
    zeros zero = refl
    zeros (suc j) = let top : 0 / 2 ^ j ≡ 0 = zero-div (2 ^ j) in omega (arith, top, zeros j)
