-- What the columns of the Reed-Muller chains are, shown for each r by one test. Assumes nothing.
use Rattle.std.specs.Prelude.{◌≡◌, ℕ, zero, suc, ◌+◌, ◌-◌, ◌%◌, ◌^◌, ◌<◌, ◌≤◌, Bool, true, cond, ◌&&◌, leb, List, [], ◌∷◌, length, take, drop, replicate, ◌==◌, nat_eq, nat_le, nat_lt, slice_index, refl}
use Rattle.std.proofs.Common.{ap, ap₂, subst, ◌∙◌, arith}
use Rattle.std.specs.List.{AllByRecursion}
use Rattle.std.proofs.ByRecursion.{All-get_or}
use Rattle.std.proofs.lemmas.Bool.{and_parts, eqb-true, ltb-true, leb-true}
use Rattle.chains.specs.Bits.{total}
use Rattle.chains.specs.Model.{Cells}
use Rattle.chains.specs.ReedMuller.{MullerRange, counted, inside, muller_widths, order}
use Rattle.chains.specs.Votes.{Column, meet, subsets, column, columns}
use Rattle.chains.specs.Laying.{get_or_counted, length_counted}
use Rattle.chains.specs.Voting.{GoodSet, Good, overlay}

-- the four chains
pub each_muller : (P : ℕ → Type 0) → P 1 → P 2 → P 3 → P 4 → (r : ℕ) → MullerRange r → P r
each_muller P one two three four zero range = absurd (omega arith)
each_muller P one two three four (suc zero) range = one
each_muller P one two three four (suc (suc zero)) range = two
each_muller P one two three four (suc (suc (suc zero))) range = three
each_muller P one two three four (suc (suc (suc (suc zero)))) range = four
each_muller P one two three four (suc (suc (suc (suc (suc r))))) range = absurd (omega arith)

-- all of a list pass a test, and what that says of each
abbrev pub every : {X : Type 0} → (X → Bool) → List X → Bool
every test [] = true
every test (x ∷ xs) = test x && every test xs

all_from_every : {X : Type 0} (test : X → Bool) (P : X → Type 0) → ((x : X) → test x ≡ true → P x) → (xs : List X) → every test xs ≡ true → AllByRecursion P xs
all_from_every test P tells [] e = tt
all_from_every test P tells (x ∷ xs) e =
    let p = and_parts (test x) (every test xs) e in (tells x p.0, all_from_every test P tells xs p.1)

-- a test that passes at each of k numbers from i on
pub counted_test : (test : ℕ → Bool) (i k p : ℕ) → every test (counted i k) ≡ true → p < k → test (i + p) ≡ true
counted_test test i k p e h =
    subst (λ (q : ℕ). test q ≡ true) (get_or_counted i k p h)
    (All-get_or (λ q. test q ≡ true) (counted i k) p 0 (omega (arith, length_counted i k)) (all_from_every test (λ q. test q ≡ true) (λ _ t. t) (counted i k) e))

abbrev pub cells_test : ℕ → List ℕ → Bool
cells_test n xs = length xs == n && every (λ x. nat_lt x 2) xs

pub cells_tell : (n : ℕ) (xs : List ℕ) → cells_test n xs ≡ true → Cells n xs
cells_tell n xs e =
    let p = and_parts (length xs == n) (every (λ x. nat_lt x 2) xs) e in
    (eqb-true (length xs) n p.0, all_from_every (λ x. nat_lt x 2) (λ x. x < 2) (λ x t. ltb-true x 2 t) xs p.1)

-- a set that is odd on its own column and even on the later ones
abbrev set_test : ℕ → List ℕ → List Column → List ℕ → Bool
set_test n own later set = cells_test n set && ((meet set own % 2) == 1 && every (λ (d : Column). nat_eq (meet set d.reaches % 2) 0) later)

set_tells : (n : ℕ) (own : List ℕ) (later : List Column) (set : List ℕ) → set_test n own later set ≡ true → GoodSet n own later set
set_tells n own later set e =
    let p = and_parts (cells_test n set) _ e in
    let q = and_parts ((meet set own % 2) == 1) _ p.1 in
    (cells_tell n set p.0, eqb-true (meet set own % 2) 1 q.0, all_from_every (λ (d : Column). nat_eq (meet set d.reaches % 2) 0) (λ (d : Column). meet set d.reaches % 2 ≡ 0) (λ d t. eqb-true (meet set d.reaches % 2) 0 t) later q.1)

abbrev all_one : List ℕ → Bool
all_one [] = true
all_one (x ∷ xs) = x == 1 && all_one xs

ones_tell : (xs : List ℕ) → all_one xs ≡ true → xs ≡ replicate (length xs) 1
ones_tell [] e = refl
ones_tell (x ∷ xs) e = let p = and_parts (x == 1) (all_one xs) e in ap₂ ◌∷◌ (eqb-true x 1 p.0) (ones_tell xs p.1)

abbrev good_test : ℕ → List Column → Bool
good_test n [] = true
good_test n (c ∷ cs) =
    cells_test n c.reaches
    && (every (set_test n c.reaches cs) c.checks && ((all_one (overlay n c.checks) && length (overlay n c.checks) == n) && good_test n cs))

good_tells : (n : ℕ) (cs : List Column) → good_test n cs ≡ true → Good n cs
good_tells n [] e = tt
good_tells n (c ∷ cs) e =
    let own = c.reaches in
    let over = overlay n c.checks in
    let p = and_parts (cells_test n own) _ e in
    let q = and_parts (every (set_test n own cs) c.checks) _ p.1 in
    let s = and_parts (all_one over && length over == n) (good_test n cs) q.1 in
    let t = and_parts (all_one over) (length over == n) s.0 in
    (cells_tell n own p.0, all_from_every (set_test n own cs) (GoodSet n own cs) (λ set. set_tells n own cs set) c.checks q.0, ones_tell over t.0 ∙ ap (λ k. replicate k 1) (eqb-true (length over) n t.1), good_tells n cs s.1)

pub muller_good : (r : ℕ) → MullerRange r → Good (2 ^ r) (columns r)
unfolding subsets
muller_good r range = good_tells (2 ^ r) (columns r) (each_muller (λ k. good_test (2 ^ k) (columns k) ≡ true) refl refl refl refl r range)

-- each stage's bits and those of the later stages have at least as many check sums as the stage's distance
abbrev enough_test : ℕ → ℕ → Bool
enough_test r i = every (λ (c : Column). leb (2 ^ (i - 1)) (length c.checks)) (drop (total (take (i - 1) (muller_widths r))) (columns r))

pub muller_enough : (r i : ℕ) → MullerRange r → 1 ≤ i → i ≤ r + 1 → AllByRecursion (λ (c : Column). 2 ^ (i - 1) ≤ length c.checks) (drop (total (take (i - 1) (muller_widths r))) (columns r))
unfolding subsets
muller_enough r i range low high =
    let all = each_muller (λ k. every (enough_test k) (counted 1 (k + 1)) ≡ true) refl refl refl refl r range in
    let here : 1 + (i - 1) ≡ i = omega arith in
    let test : enough_test r i ≡ true = subst (λ (q : ℕ). enough_test r q ≡ true) here (counted_test (enough_test r) 1 (r + 1) (i - 1) all (omega arith)) in
    all_from_every (λ (c : Column). leb (2 ^ (i - 1)) (length c.checks)) (λ (c : Column). 2 ^ (i - 1) ≤ length c.checks) (λ c t. leb-true (2 ^ (i - 1)) (length c.checks) t) _ test

-- a bit reaches the cells that have all its ones
abbrev reach_here : ℕ → ℕ → ℕ → Bool
reach_here r p s = cells_test (2 ^ r) (column r s).reaches && slice_index (column r s).reaches p == cond (inside s p) 1 0

abbrev reach_test : ℕ → ℕ → Bool
reach_test r p = every (reach_here r p) (order r)

pub muller_reach : (r p : ℕ) → MullerRange r → p < 2 ^ r → AllByRecursion (λ s. Cells (2 ^ r) (column r s).reaches × (slice_index (column r s).reaches p ≡ cond (inside s p) 1 0)) (order r)
unfolding subsets
muller_reach r p range at =
    let all = each_muller (λ k. every (reach_test k) (counted 0 (2 ^ k)) ≡ true) refl refl refl refl r range in
    let here : 0 + p ≡ p = omega arith in
    let test : reach_test r p ≡ true = subst (λ (q : ℕ). reach_test r q ≡ true) here (counted_test (reach_test r) 0 (2 ^ r) p all at) in
    all_from_every (reach_here r p) (λ s. Cells (2 ^ r) (column r s).reaches × (slice_index (column r s).reaches p ≡ cond (inside s p) 1 0)) tells (order r) test
  where
    tells : (s : ℕ) → reach_here r p s ≡ true → Cells (2 ^ r) (column r s).reaches × (slice_index (column r s).reaches p ≡ cond (inside s p) 1 0)
    tells s t =
        let both = and_parts (cells_test (2 ^ r) (column r s).reaches) _ t in
        (cells_tell (2 ^ r) (column r s).reaches both.0, eqb-true (slice_index (column r s).reaches p) (cond (inside s p) 1 0) both.1)

-- the widths are as many as the stages, and add up to the number of cells
pub record MullerSizes (r : ℕ) : Type 0 where
  pub stages : length (muller_widths r) ≡ r + 1
  pub bits : total (muller_widths r) ≡ 2 ^ r
  pub many : length (columns r) ≡ 2 ^ r
  pub some_width : AllByRecursion (λ w. 1 ≤ w) (muller_widths r)
  pub few_width : AllByRecursion (λ w. w ≤ 8) (muller_widths r)
  pub few_cells : 2 ^ r ≤ 16

abbrev some_test : ℕ → Bool
some_test r = every (leb 1) (muller_widths r) && every (λ w. leb w 8) (muller_widths r)

pub muller_sizes : (r : ℕ) → MullerRange r → MullerSizes r
unfolding subsets
muller_sizes r range =
    let widths = and_parts (every (leb 1) (muller_widths r)) _ (each_muller (λ k. some_test k ≡ true) refl refl refl refl r range) in
    record {
      stages = each_muller (λ k. length (muller_widths k) ≡ k + 1) refl refl refl refl r range;
      bits = each_muller (λ k. total (muller_widths k) ≡ 2 ^ k) refl refl refl refl r range;
      many = each_muller (λ k. length (columns k) ≡ 2 ^ k) refl refl refl refl r range;
      some_width = all_from_every (leb 1) (λ w. 1 ≤ w) (λ w t. leb-true 1 w t) (muller_widths r) widths.0;
      few_width = all_from_every (λ w. leb w 8) (λ w. w ≤ 8) (λ w t. leb-true w 8 t) (muller_widths r) widths.1;
      few_cells = leb-true (2 ^ r) 16 (each_muller (λ k. nat_le (2 ^ k) 16 ≡ true) refl refl refl refl r range);
    }
