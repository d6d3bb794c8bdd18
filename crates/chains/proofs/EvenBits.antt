-- The word of a row of the even chain, and the number that the first cells of a reading spell, as a program makes them. Assumes nothing.
use Rattle.std.proofs.Common.{◌≡◌, ℕ, zero, suc, ◌+◌, ◌-◌, ◌%◌, ◌^◌, ◌<◌, ◌≤◌, true, false, cond, eqb, List, [], ◌∷◌, ◌++◌, length, take, drop, set, sym, refl, ap, ◌∙◌, subst, ap₂, mod-eq_of_lt, arith, pow_mono}
use Rattle.std.specs.List.{AllByRecursion}
use Rattle.std.proofs.ByRecursion.{All-take}
use Rattle.std.proofs.lemmas.List.{length-drop, length-take-le, set-append_right, take_at}
use lib.Bits.{bit_xor, xor_lt}
use Rattle.chains.specs.Bits.{bits_of, spelled, total, parity}
use Rattle.chains.specs.Even.{filled_at, filled}
use Rattle.chains.specs.Model.{Cells}
use Rattle.chains.specs.Parity.{xor_bit}
use Rattle.chains.specs.Spelling.{length_bits, bits_small, spelled_bits, spelled_small, bits_spelled}
use Rattle.chains.specs.Votes.{added}
use Rattle.chains.proofs.Masks.{xor_bits}

-- the bits of the first cells, as a program writes them
bits_front : (k b : ℕ) (bits cells : List ℕ) → k ≤ length cells → bits ≡ bits_of (length (take (k - 1) cells)) b → bits ≡ bits_of (k - 1) b
bits_front k b bits cells within e = e ∙ ap (λ j. bits_of j b) (length-take-le (k - 1) cells (omega arith))

pub front_written : (k b : ℕ) (bits cells : List ℕ) → k ≤ length cells → bits ≡ bits_of (length (take (k - 1) cells)) b → AllByRecursion (λ x. x < 2) (take (k - 1) (bits ++ drop (k - 1) cells))
front_written k b bits cells within e =
    let is = bits_front k b bits cells within e in
    let front = take_at bits (drop (k - 1) cells) (k - 1) (ap length is ∙ length_bits (k - 1) b) ∙ is in
    subst (AllByRecursion (λ x. x < 2)) (sym front) (bits_small (k - 1) b)

lone_set : (xs : List ℕ) (x : ℕ) → length xs ≡ 1 → set xs 0 x ≡ x ∷ []
lone_set [] x l = absurd (omega arith)
lone_set (y ∷ []) x l = refl
lone_set (y ∷ z ∷ xs) x l = absurd (omega arith)

-- the last cell is written after the first ones
end_set : (firsts cells : List ℕ) (k x : ℕ) → length firsts ≡ k → length cells ≡ k + 1 → set (firsts ++ drop k cells) k x ≡ firsts ++ (x ∷ [])
end_set firsts cells k x lf lc =
    let none : k - k ≡ 0 = omega arith in
    set-append_right firsts (drop k cells) k k x lf (omega arith)
    ∙ ap (λ i. firsts ++ set (drop k cells) i x) none
    ∙ ap (λ xs. firsts ++ xs) (lone_set (drop k cells) x (length-drop k cells ∙ omega arith))

-- the first cells of a reading, or its first marks, spell a number of as many bits
module _ (n : ℕ) (xs : List ℕ) (fx : Cells n xs) where
  long : length (take (n - 1) xs) ≡ n - 1
  long = length-take-le (n - 1) xs (omega (arith, fx.0))

  front_small : spelled (take (n - 1) xs) < 2 ^ (n - 1)
  front_small = subst (λ (j : ℕ). spelled (take (n - 1) xs) < 2 ^ j) long (spelled_small (take (n - 1) xs) (All-take (λ b. b < 2) (n - 1) xs fx.1))

  front_byte : n ≤ 9 → spelled (take (n - 1) xs) < 256
  front_byte few = omega (arith, front_small, pow_mono {i = n - 1} {j = 8} (omega arith))

  front_bits : bits_of (n - 1) (spelled (take (n - 1) xs)) ≡ take (n - 1) xs
  front_bits = subst (λ (j : ℕ). bits_of j (spelled (take (n - 1) xs)) ≡ take (n - 1) xs) long (bits_spelled (take (n - 1) xs) (All-take (λ b. b < 2) (n - 1) xs fx.1))

  -- as a program spells it
  pub front_number : (k r : ℕ) → n ≤ 9 → k ≡ n → r ≡ spelled (take (k - 1) xs) % 65536 → (r ≡ spelled (take (n - 1) xs)) × (r < 256)
  front_number k r few ek e =
      let small = front_byte few in
      let is = e ∙ ap (λ j. spelled (take (j - 1) xs) % 65536) ek ∙ mod-eq_of_lt (omega (arith, small)) in
      (is, omega (arith, is, small))

still_at : (cell mark : ℕ) → cell < 2 → filled_at 0 cell mark ≡ cell
still_at cell mark h = elim (eqb mark 0) as (λ t. cond t cell ((cell + 0) % 2) ≡ cell) [ true ↦ refl | false ↦ omega arith ]

turned_at : (cell mark : ℕ) → cell < 2 → mark < 2 → filled_at 1 cell mark ≡ (cell + mark) % 2
turned_at cell zero hc hm = omega arith
turned_at cell (suc zero) hc hm = refl
turned_at cell (suc (suc mark)) hc hm = absurd (omega arith)

-- where blank cells are left alone, the first cells are as they are
filled_still : (k : ℕ) (cells marks : List ℕ) → length cells ≡ length marks → AllByRecursion (λ b. b < 2) cells → take k (filled 0 cells marks) ≡ take k cells
filled_still zero cells marks l a = refl
filled_still (suc k) [] marks l a = refl
filled_still (suc k) (c ∷ cells) [] l a = absurd (omega arith)
filled_still (suc k) (c ∷ cells) (m ∷ marks) l a = ap₂ ◌∷◌ (still_at c m a.0) (filled_still k cells marks (omega arith) a.1)

filled_added : (k : ℕ) (cells marks : List ℕ) → length cells ≡ length marks → AllByRecursion (λ b. b < 2) cells → AllByRecursion (λ b. b < 2) marks → take k (filled 1 cells marks) ≡ added (take k cells) (take k marks)
filled_added zero cells marks l a b = refl
filled_added (suc k) [] marks l a b = refl
filled_added (suc k) (c ∷ cells) [] l a b = absurd (omega arith)
filled_added (suc k) (c ∷ cells) (m ∷ marks) l a b = ap₂ ◌∷◌ (turned_at c m a.0 b.0) (filled_added k cells marks (omega arith) a.1 b.1)

module _ (n : ℕ) (cells marks : List ℕ) (fc : Cells n cells) (fm : Cells n marks) where
  pub spelled_still : spelled (take (n - 1) cells) ≡ spelled (take (n - 1) (filled 0 cells marks))
  spelled_still = ap spelled (sym (filled_still (n - 1) cells marks (fc.0 ∙ sym fm.0) fc.1))

  -- where they are turned, the number of the marks is added bit by bit
  pub spelled_turned : bit_xor (spelled (take (n - 1) cells)) (spelled (take (n - 1) marks)) ≡ spelled (take (n - 1) (filled 1 cells marks))
  spelled_turned =
      let x = spelled (take (n - 1) cells) in
      let y = spelled (take (n - 1) marks) in
      let small = xor_lt (n - 1) x y (front_small n cells fc) (front_small n marks fm) in
      sym (mod-eq_of_lt small)
      ∙ sym (spelled_bits (n - 1) (bit_xor x y))
      ∙ ap spelled (xor_bits (n - 1) x y ∙ ap₂ added (front_bits n cells fc) (front_bits n marks fm) ∙ sym (filled_added (n - 1) cells marks (fc.0 ∙ sym fm.0) fc.1 fm.1))

-- the word of a row, whose last cell is written after the bits of the first ones
pub word_written : (n k a b p : ℕ) (bits cells : List ℕ) → k ≡ n → 2 ≤ n → length cells ≡ n → a < 2 → bits ≡ bits_of (length (take (k - 1) cells)) b → p ≡ parity (take (k - 1) (bits ++ drop (k - 1) cells)) → set (bits ++ drop (k - 1) cells) (k - 1) (bit_xor a p) ≡ bits_of (n - 1) b ++ ((a + total (bits_of (n - 1) b)) % 2 ∷ [])
word_written n k a b p bits cells ek some lc small written odd =
    let fs = bits_front k b bits cells (omega arith) written in
    let same : k - 1 ≡ n - 1 = omega arith in
    let firsts = fs ∙ ap (λ j. bits_of j b) same in
    let long : length bits ≡ k - 1 = ap length fs ∙ length_bits (k - 1) b in
    let sum : p ≡ total (bits_of (n - 1) b) % 2 = odd ∙ ap parity (take_at bits (drop (k - 1) cells) (k - 1) long ∙ firsts) in
    end_set bits cells (k - 1) (bit_xor a p) long (omega arith)
    ∙ ap₂ (λ xs x. xs ++ (x ∷ [])) firsts (xor_bit a p small (omega (arith, sum)) ∙ omega (arith, sum))
