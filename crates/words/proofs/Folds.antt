-- The number that bits spell, taken in one after the other under a modulus. Assumes nothing.
use Rattle.std.proofs.Common.{◌≡◌, ℕ, suc, ◌+◌, ◌*◌, ◌%◌, ◌^◌, ◌<◌, List, [], ◌∷◌, length, sym, ap, ◌∙◌, add-mul, mul-add, mul_assoc, mod-eq_of_lt, arith}
use Rattle.std.specs.List.{fold}
use Rattle.std.proofs.Math.Nat.{mod-add-mod}
use Rattle.std.proofs.lemmas.Nat.{mul-mod_first, mod_below}
use Rattle.words.specs.Bits.{spelled}
use Rattle.words.proofs.Spelling.{pow_more}

abbrev pub taken : ℕ → ℕ → ℕ → ℕ
taken m n b = (n * 2 % m + b) % m

-- a factor and a summand see a remainder as the whole
reduced : (m a p s : ℕ) → (a % m * p + s) % m ≡ (a * p + s) % m
reduced m a p s =
    sym (mod-add-mod (a % m * p) m s)
    ∙ ap (λ x. (x + s) % m) (mul-mod_first a p m)
    ∙ mod-add-mod (a * p) m s

pub taken_in : (m n : ℕ) (bs : List ℕ) → fold (taken m) n bs % m ≡ (n * 2 ^ length bs + spelled bs) % m
taken_in m n [] = ap (λ x. x % m) (omega arith)
taken_in m n (b ∷ bs) =
    let p = 2 ^ length bs in
    let s = spelled bs in
    let twice : n * 2 * p ≡ n * p + n * p = mul_assoc n 2 p ∙ ap (λ x. n * x) (omega arith) ∙ mul-add n p p in
    let more : n * 2 ^ suc (length bs) ≡ n * p + n * p = ap (λ x. n * x) (pow_more (length bs)) ∙ mul-add n p p in
    let whole : (n * 2 + b) * p + s ≡ n * 2 ^ suc (length bs) + (b * p + s) = omega (arith, add-mul (n * 2) b p, twice, more) in
    taken_in m (taken m n b) bs
    ∙ ap (λ x. (x * p + s) % m) (mod-add-mod (n * 2) m b)
    ∙ reduced m (n * 2 + b) p s
    ∙ ap (λ x. x % m) whole

pub taken_below : (m n : ℕ) (bs : List ℕ) → n < m → fold (taken m) n bs < m
taken_below m n [] h = h
taken_below m n (b ∷ bs) h = taken_below m (taken m n b) bs (mod_below (n * 2 % m + b) m (omega arith))

-- so a word of 16 bits takes in what the bits spell, but for its modulus
pub folded : (bits : List ℕ) (n : ℕ) → n ≡ fold (λ n b. (n * 2 % 65536 + b) % 65536) 0 bits → n ≡ spelled bits % 65536
folded bits n is =
    is ∙ sym (mod-eq_of_lt (taken_below 65536 0 bits (omega arith))) ∙ taken_in 65536 0 bits ∙ ap (λ x. x % 65536) (omega arith)
