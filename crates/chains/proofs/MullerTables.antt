-- The tables of the Reed-Muller chains, each shown right by one test. Assumes nothing.
use Rattle.std.proofs.Common.{◌≡◌, ℕ, ◌+◌, ◌*◌, ◌^◌, ◌<◌, Bool, true, false, not, ◌||◌, eqb, ltb, List, [], ◌∷◌, get_or, refl, subst, arith}
use lib.Bits.{bit_and}
use Rattle.std.proofs.lemmas.Bool.{eqb-true, ltb-true, eq-eqb}
use Rattle.words.proofs.Table.{entry_passes}
use Rattle.chains.specs.ReedMuller.{MullerRange, counted}
use Rattle.chains.specs.Votes.{subsets}
use Rattle.chains.specs.MullerColumns.{every, counted_test, each_muller}

abbrev pub subset_row : List ℕ
subset_row = 1 ∷ 3 ∷ 5 ∷ 15 ∷ 17 ∷ 51 ∷ 85 ∷ 255 ∷ 257 ∷ 771 ∷ 1285 ∷ 3855 ∷ 4369 ∷ 13107 ∷ 21845 ∷ 65535 ∷ []

abbrev subset_entry : ℕ → ℕ → Bool
subset_entry s x = eqb x (subsets s)

pub subsets_right : (s : ℕ) → s < 16 → get_or subset_row s 0 ≡ subsets s
unfolding subsets
subsets_right s h = eqb-true (get_or subset_row s 0) (subsets s) (entry_passes subset_entry subset_row refl s 0 h)

-- a column's set of cells stays within the cells
abbrev set_small : ℕ → ℕ → Bool
set_small r s = ltb (subsets s) (2 ^ 2 ^ r)

pub subsets_small : (r s : ℕ) → MullerRange r → s < 2 ^ r → subsets s < 2 ^ 2 ^ r
unfolding subsets
subsets_small r s range h =
    let all = each_muller (λ k. every (set_small k) (counted 0 (2 ^ k)) ≡ true) refl refl refl refl r range in
    let here : 0 + s ≡ s = omega arith in
    ltb-true (subsets s) (2 ^ 2 ^ r) (subst (λ (q : ℕ). set_small r q ≡ true) here (counted_test (set_small r) 0 (2 ^ r) s all h))

-- so does each of a bit's sets
abbrev free_small : ℕ → ℕ → ℕ → Bool
free_small r s a = not (eqb (bit_and a s) 0) || ltb (subsets s * 2 ^ a) (2 ^ 2 ^ r)

abbrev all_free_small : ℕ → ℕ → Bool
all_free_small r s = every (free_small r s) (counted 0 (2 ^ r))

pub set_fits : (r s a : ℕ) → MullerRange r → s < 2 ^ r → a < 2 ^ r → bit_and a s ≡ 0 → subsets s * 2 ^ a < 2 ^ 2 ^ r
unfolding subsets
set_fits r s a range hs ha free =
    let all = each_muller (λ k. every (all_free_small k) (counted 0 (2 ^ k)) ≡ true) refl refl refl refl r range in
    let here : 0 + s ≡ s = omega arith in
    let there : 0 + a ≡ a = omega arith in
    let row = subst (λ (q : ℕ). all_free_small r q ≡ true) here (counted_test (all_free_small r) 0 (2 ^ r) s all hs) in
    let test : free_small r s a ≡ true = subst (λ (q : ℕ). free_small r s q ≡ true) there (counted_test (free_small r s) 0 (2 ^ r) a row ha) in
    ltb-true (subsets s * 2 ^ a) (2 ^ 2 ^ r) (by_test (eqb (bit_and a s) 0) (eq-eqb (bit_and a s) 0 free) test)
  where
    by_test : (t : Bool) → t ≡ true → (not t || ltb (subsets s * 2 ^ a) (2 ^ 2 ^ r)) ≡ true → ltb (subsets s * 2 ^ a) (2 ^ 2 ^ r) ≡ true
    by_test true e test = test
    by_test false e test = cc
