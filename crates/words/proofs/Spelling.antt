-- A number and the bits that spell it. Assumes nothing.
use Rattle.std.specs.Prelude.{◌≡◌, ℕ, zero, suc, ◌+◌, ◌-◌, ◌*◌, ◌/◌, ◌%◌, ◌^◌, ◌<◌, ◌≤◌, List, [], ◌∷◌, ◌++◌, length, take, drop, replicate, slice_index, refl}
use Rattle.std.proofs.Common.{sym, ap, ap₂, subst, ◌∙◌, add-mul, mul_assoc, lt_of_lt_of_le, mod-eq_of_lt, mul-add, mul-le-mul_right, arith, pow_mono}
use Rattle.std.proofs.Math.Nat.{zero-div, le-pred_of_lt}
use Rattle.std.proofs.Math.Pow.{field, mod-mod-pow}
use Rattle.std.specs.List.{AllByRecursion}
use Rattle.std.proofs.lemmas.Nat.{mod-pow-add, pow-add, shr_high, mod_low}
use Rattle.std.proofs.ByRecursion.{All-take, All-drop}
use Rattle.std.proofs.lemmas.List.{length-append, length-drop, length-take-le, take-append-drop, take_more}
use Rattle.words.specs.Bits.{bits_of, spelled}

pub length_bits : (k x : ℕ) → length (bits_of k x) ≡ k
length_bits zero x = refl
length_bits (suc k) x = ap suc (length_bits k x)

pub bits_small : (k x : ℕ) → AllByRecursion (λ b. b < 2) (bits_of k x)
bits_small zero x = tt
bits_small (suc k) x = (omega arith, bits_small k x)

pub spelled_bits : (k x : ℕ) → spelled (bits_of k x) ≡ x % 2 ^ k
spelled_bits zero x = omega arith
spelled_bits (suc k) x =
    let more : suc k ≡ 1 + k = omega arith in
    ap₂ (λ n rest. x / 2 ^ k % 2 * 2 ^ n + rest) (length_bits k x) (spelled_bits k x)
    ∙ sym (mod-pow-add x 1 k)
    ∙ ap (λ n. x % 2 ^ n) (sym more)

pub pow_more : (k : ℕ) → 2 ^ suc k ≡ 2 ^ k + 2 ^ k
pow_more k = let more : suc k ≡ 1 + k = omega arith in ap (λ n. 2 ^ n) more ∙ pow-add 2 1 k ∙ omega arith

-- bits are those of the remainder
pub same_bits : (k x y : ℕ) → x % 2 ^ k ≡ y % 2 ^ k → bits_of k x ≡ bits_of k y
same_bits zero x y e = refl
same_bits (suc k) x y e =
    let more : suc k ≡ 1 + k = omega arith in
    let here : x % 2 ^ (1 + k) ≡ y % 2 ^ (1 + k) = subst (λ (n : ℕ). x % 2 ^ n ≡ y % 2 ^ n) more e in
    ap₂ ◌∷◌ (sym (field x 1 k) ∙ ap (λ n. n / 2 ^ k) here ∙ field y 1 k)
    (same_bits k x y (sym (mod-mod-pow x 1 k) ∙ ap (λ n. n % 2 ^ k) here ∙ mod-mod-pow y 1 k))

pub spelled_small : (bs : List ℕ) → AllByRecursion (λ b. b < 2) bs → spelled bs < 2 ^ length bs
spelled_small [] a = omega arith
spelled_small (b ∷ bs) a =
    let one = mul-le-mul_right (2 ^ length bs) (le-pred_of_lt a.0) in
    omega (arith, one, spelled_small bs a.1, pow_more (length bs))

pub bits_spelled : (bs : List ℕ) → AllByRecursion (λ b. b < 2) bs → bits_of (length bs) (spelled bs) ≡ bs
bits_spelled [] a = refl
bits_spelled (b ∷ bs) a =
    let k = length bs in
    let s = spelled bs in
    let small = spelled_small bs a.1 in
    let head : (b * 2 ^ k + s) / 2 ^ k % 2 ≡ b = ap (λ n. n % 2) (shr_high b k s small) ∙ omega arith in
    let low : (b * 2 ^ k + s) % 2 ^ k ≡ s % 2 ^ k = mod_low b k s small ∙ sym (mod-eq_of_lt small) in
    ap₂ ◌∷◌ head (same_bits k _ s low ∙ bits_spelled bs a.1)

pub get_or_bits : (k x p : ℕ) → p < k → slice_index (bits_of k x) p ≡ x / 2 ^ (k - 1 - p) % 2
get_or_bits zero x p h = absurd (omega arith)
get_or_bits (suc k) x zero h = let top : k ≡ suc k - 1 - 0 = omega arith in ap (λ n. x / 2 ^ n % 2) top
get_or_bits (suc k) x (suc p) h =
    let next : k - 1 - p ≡ suc k - 1 - suc p = omega arith in
    get_or_bits k x p (omega arith) ∙ ap (λ n. x / 2 ^ n % 2) next

pub bits_behind : (k x p : ℕ) → k ≤ p → slice_index (bits_of k x) p ≡ 0
bits_behind zero x p h = refl
bits_behind (suc k) x zero h = absurd (omega arith)
bits_behind (suc k) x (suc p) h = bits_behind k x p (omega arith)

-- one bit more at the end
pub spelled_push : (bs : List ℕ) (b : ℕ) → spelled (bs ++ (b ∷ [])) ≡ 2 * spelled bs + b
spelled_push [] b = omega arith
spelled_push (x ∷ bs) b =
    let long : length (bs ++ (b ∷ [])) ≡ suc (length bs) = length-append bs (b ∷ []) ∙ omega arith in
    let high : x * 2 ^ length (bs ++ (b ∷ [])) ≡ x * 2 ^ length bs + x * 2 ^ length bs = ap (λ n. x * 2 ^ n) long ∙ ap (λ n. x * n) (pow_more (length bs)) ∙ mul-add x (2 ^ length bs) (2 ^ length bs) in
    omega (arith, high, spelled_push bs b)

pub spelled_more : (xs : List ℕ) (i : ℕ) → i < length xs → spelled (take (i + 1) xs) ≡ 2 * spelled (take i xs) + slice_index xs i
spelled_more xs i h = ap spelled (take_more xs i 0 h) ∙ spelled_push (take i xs) (slice_index xs i)

-- the first i bits spell less than any more of them could
pub spelled_front : (xs : List ℕ) (i k : ℕ) → AllByRecursion (λ b. b < 2) xs → i ≤ k → i ≤ length xs → spelled (take i xs) < 2 ^ k
spelled_front xs i k a few within =
    let long = length-take-le i xs within in
    lt_of_lt_of_le (subst (λ (n : ℕ). spelled (take i xs) < 2 ^ n) long (spelled_small (take i xs) (All-take (λ b. b < 2) i xs a))) (pow_mono {i = i} {j = k} few)

pub spelled_append : (xs ys : List ℕ) → spelled (xs ++ ys) ≡ spelled xs * 2 ^ length ys + spelled ys
spelled_append [] ys = omega arith
spelled_append (x ∷ xs) ys =
    let p = 2 ^ length ys in
    let high : x * 2 ^ length (xs ++ ys) ≡ x * 2 ^ length xs * p = ap (λ n. x * 2 ^ n) (length-append xs ys) ∙ ap (λ n. x * n) (pow-add 2 (length xs) (length ys)) ∙ sym (mul_assoc x (2 ^ length xs) p) in
    omega (arith, high, add-mul (x * 2 ^ length xs) (spelled xs) p, spelled_append xs ys)

-- the first w bits, as a program shifts them out
pub spelled_head : (bs : List ℕ) (w : ℕ) → w ≤ length bs → AllByRecursion (λ b. b < 2) bs → spelled bs / 2 ^ (length bs - w) ≡ spelled (take w bs)
spelled_head bs w h a =
    let k = length bs - w in
    let back : length (drop w bs) ≡ k = length-drop w bs in
    let low : spelled (drop w bs) < 2 ^ k = subst (λ (n : ℕ). spelled (drop w bs) < 2 ^ n) back (spelled_small (drop w bs) (All-drop (λ b. b < 2) w bs a)) in
    ap (λ x. spelled x / 2 ^ k) (sym (take-append-drop w bs))
    ∙ ap (λ x. x / 2 ^ k) (spelled_append (take w bs) (drop w bs))
    ∙ ap (λ n. (spelled (take w bs) * 2 ^ n + spelled (drop w bs)) / 2 ^ k) back
    ∙ shr_high (spelled (take w bs)) k (spelled (drop w bs)) low

pub bits_none : (k : ℕ) → bits_of k 0 ≡ replicate k 0
bits_none zero = refl
bits_none (suc k) = let top : 0 / 2 ^ k % 2 ≡ 0 = ap (λ x. x % 2) (zero-div (2 ^ k)) in ap₂ ◌∷◌ top (bits_none k)
