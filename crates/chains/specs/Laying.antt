-- Words as what bits leave on the cells, and the harm by what is left of a reading. Assumes nothing.
use Rattle.std.specs.Prelude.{◌≡◌, ℕ, zero, suc, ◌+◌, ◌*◌, ◌%◌, ◌<◌, ◌≤◌, Bool, true, false, cond, List, [], ◌∷◌, ◌++◌, map, length, drop, replicate, ◌==◌, slice_index, slice_index_or, refl}
use Rattle.std.proofs.Common.{sym, ap, ap₂, ◌∙◌, arith}
use Rattle.std.specs.List.{AllByRecursion}
use Rattle.std.proofs.ByRecursion.{All-get_or}
use Rattle.std.proofs.lemmas.List.{ext_get_or, get_or-map, get_or-replicate, length-map}
use Rattle.words.specs.Harm.{harm, harm_at}
use Rattle.chains.specs.Model.{Cells}
use Rattle.chains.specs.ReedMuller.{counted, inside, held}
use Rattle.chains.specs.Votes.{Column, added, turned, laid, left_harm}
use Rattle.chains.specs.Voting.{Good, turned_cells, laid_cells}

added_assoc : (x y z : List ℕ) → added (added x y) z ≡ added x (added y z)
added_assoc [] y z = refl
added_assoc (a ∷ x) [] z = refl
added_assoc (a ∷ x) (b ∷ y) [] = refl
added_assoc (a ∷ x) (b ∷ y) (c ∷ z) = let here : ((a + b) % 2 + c) % 2 ≡ (a + (b + c) % 2) % 2 = omega arith in ap₂ ◌∷◌ here (added_assoc x y z)

added_none : (n : ℕ) (y : List ℕ) → Cells n y → added y (replicate n 0) ≡ y
added_none n [] fy = refl
added_none zero (a ∷ y) fy = absurd (omega (arith, fy.0))
added_none (suc n) (a ∷ y) fy = let here : (a + 0) % 2 ≡ a = omega (arith, fy.1.0) in ap₂ ◌∷◌ here (added_none n y (omega (arith, fy.0), fy.1.1))

laid_added : (cs : List Column) (bs y z : List ℕ) → laid cs bs (added y z) ≡ added y (laid cs bs z)
laid_added [] bs y z = refl
laid_added (c ∷ cs) [] y z = refl
laid_added (c ∷ cs) (b ∷ bs) y z = ap (laid cs bs) (by_bit (b == 0)) ∙ laid_added cs bs y (turned b c z)
  where
    by_bit : (t : Bool) → cond t (added y z) (added (added y z) c.reaches) ≡ added y (cond t z (added z c.reaches))
    by_bit true = refl
    by_bit false = added_assoc y z c.reaches

-- to take a word off a reading is to add it
pub laid_on : (n : ℕ) (cs : List Column) (bs y : List ℕ) → Cells n y → laid cs bs y ≡ added y (laid cs bs (replicate n 0))
laid_on n cs bs y fy = ap (laid cs bs) (sym (added_none n y fy)) ∙ laid_added cs bs y (replicate n 0)

left_at : (y k w : ℕ) → y < 2 → w < 2 → harm_at y k w ≡ cond (k == 0) (2 * ((y + w) % 2)) 1
left_at y k w hy hw = ap (λ z. cond (k == 0) z 1) (wrong y w hy hw)
  where
    wrong : (y w : ℕ) → y < 2 → w < 2 → cond (y == w) 0 2 ≡ 2 * ((y + w) % 2)
    wrong zero zero hy hw = refl
    wrong zero (suc zero) hy hw = refl
    wrong (suc zero) zero hy hw = refl
    wrong (suc zero) (suc zero) hy hw = refl
    wrong zero (suc (suc w)) hy hw = absurd (omega arith)
    wrong (suc zero) (suc (suc w)) hy hw = absurd (omega arith)
    wrong (suc (suc y)) w hy hw = absurd (omega arith)

harm_left : (n : ℕ) (y m w : List ℕ) → Cells n y → Cells n m → Cells n w → harm y m w ≡ left_harm (added y w) m
harm_left n [] m w fy fm fw = refl
harm_left n (a ∷ y) [] w fy fm fw = absurd (omega (arith, fy.0, fm.0))
harm_left n (a ∷ y) (k ∷ m) [] fy fm fw = absurd (omega (arith, fy.0, fw.0))
harm_left n (a ∷ y) (k ∷ m) (b ∷ w) fy fm fw =
    ap₂ ◌+◌ (left_at a k b fy.1.0 fw.1.0)
    (harm_left (length y) y m w (refl, fy.1.1) (omega (arith, fy.0, fm.0), fm.1.1) (omega (arith, fy.0, fw.0), fw.1.1))

pub zeros_cells : (n : ℕ) → Cells n (replicate n 0)
zeros_cells zero = (refl, tt)
zeros_cells (suc n) = let rest = zeros_cells n in (ap suc rest.0, (omega arith, rest.1))

-- the harm of a reading against a word, by what is left of it
pub harm_laid : (n : ℕ) (cs : List Column) (bs y m : List ℕ) → Good n cs → Cells n y → Cells n m → harm y m (laid cs bs (replicate n 0)) ≡ left_harm (laid cs bs y) m
harm_laid n cs bs y m good fy fm =
    harm_left n y m (laid cs bs (replicate n 0)) fy fm (laid_cells n cs bs (replicate n 0) good (zeros_cells n))
    ∙ ap (λ e. left_harm e m) (sym (laid_on n cs bs y fy))

pub laid_append : (cs : List Column) (xs ys z : List ℕ) → length xs ≤ length cs → laid cs (xs ++ ys) z ≡ laid (drop (length xs) cs) ys (laid cs xs z)
laid_append [] [] ys z h = refl
laid_append [] (x ∷ xs) ys z h = absurd (omega arith)
laid_append (c ∷ cs) [] ys z h = refl
laid_append (c ∷ cs) (x ∷ xs) ys z h = laid_append cs xs ys (turned x c z) (omega arith)

pub get_or_counted : (i k p : ℕ) → p < k → slice_index (counted i k) p ≡ i + p
get_or_counted i zero p h = absurd (omega arith)
get_or_counted i (suc k) zero h = omega arith
get_or_counted i (suc k) (suc p) h = get_or_counted (suc i) k p (omega arith) ∙ omega arith

pub length_counted : (i k : ℕ) → length (counted i k) ≡ k
length_counted i zero = refl
length_counted i (suc k) = ap suc (length_counted (suc i) k)

get_or_added : (x y : List ℕ) (p : ℕ) → p < length x → p < length y → slice_index (added x y) p ≡ (slice_index x p + slice_index y p) % 2
get_or_added [] y p hx hy = absurd (omega arith)
get_or_added (a ∷ x) [] p hx hy = absurd (omega arith)
get_or_added (a ∷ x) (b ∷ y) zero hx hy = refl
get_or_added (a ∷ x) (b ∷ y) (suc p) hx hy = get_or_added x y p (omega arith) (omega arith)

-- one cell of what bits leave: the exclusive or of those that reach it
module _ (n p : ℕ) (at : p < n) (column : ℕ → Column) where
  abbrev Reach : ℕ → Type 0
  Reach s = Cells n (column s).reaches × (slice_index (column s).reaches p ≡ cond (inside s p) 1 0)

  pub laid_at : (ss bs y : List ℕ) → AllByRecursion Reach ss → AllByRecursion (λ b. b < 2) bs → Cells n y → slice_index (laid (map column ss) bs y) p % 2 ≡ (slice_index y p + held p ss bs) % 2
  laid_at [] bs y reach bits fy = omega arith
  laid_at (s ∷ ss) [] y reach bits fy = omega arith
  laid_at (s ∷ ss) (b ∷ bs) y reach bits fy =
      let rest = laid_at ss bs (turned b (column s) y) reach.1 bits.1 (turned_cells n b (column s) y reach.0.0 fy) in
      let here = by_bit b bits.0 (inside s p) reach.0.1 in
      omega (arith, rest, here)
    where
      by_bit : (k : ℕ) → k < 2 → (t : Bool) → slice_index (column s).reaches p ≡ cond t 1 0 → slice_index (turned k (column s) y) p % 2 ≡ (slice_index y p + cond t k 0) % 2
      by_bit zero h t e = elim t as (λ z. slice_index y p % 2 ≡ (slice_index y p + cond z 0 0) % 2) [ true ↦ omega arith | false ↦ omega arith ]
      by_bit (suc zero) h t e =
          let sum = get_or_added y (column s).reaches p (omega (arith, fy.0, at)) (omega (arith, reach.0.0.0, at)) in
          omega (arith, sum, e)
      by_bit (suc (suc k)) h t e = absurd (omega arith)

-- so the bits leave the word that is made of them, cell by cell
pub word_laid : (n : ℕ) (column : ℕ → Column) (ss bs : List ℕ) → Good n (map column ss) → AllByRecursion (λ b. b < 2) bs → ((p : ℕ) → p < n → AllByRecursion (λ s. Cells n (column s).reaches × (slice_index (column s).reaches p ≡ cond (inside s p) 1 0)) ss) → map (λ p. held p ss bs % 2) (counted 0 n) ≡ laid (map column ss) bs (replicate n 0)
word_laid n column ss bs good bits reach = ext_get_or 0 _ _ (long ∙ sym fits.0) each
  where
    fits : Cells n (laid (map column ss) bs (replicate n 0))
    fits = laid_cells n (map column ss) bs (replicate n 0) good (zeros_cells n)

    long : length (map (λ p. held p ss bs % 2) (counted 0 n)) ≡ n
    long = length-map (counted 0 n) (λ p. held p ss bs % 2) ∙ length_counted 0 n

    each : (p : ℕ) → p < length (map (λ p. held p ss bs % 2) (counted 0 n)) → slice_index (map (λ p. held p ss bs % 2) (counted 0 n)) p ≡ slice_index (laid (map column ss) bs (replicate n 0)) p
    each p h =
        let at : p < n = omega (arith, long) in
        let cell = laid_at n p at column ss bs (replicate n 0) (reach p at) bits (zeros_cells n) in
        let small = All-get_or (λ b. b < 2) (laid (map column ss) bs (replicate n 0)) p 0 (omega (arith, fits.0)) fits.1 in
        let here : slice_index_or (counted 0 n) p 0 ≡ p = get_or_counted 0 n p at ∙ omega arith in
        let zero_there = get_or-replicate {A = ℕ} n p 0 0 at in
        get_or-map (λ q. held q ss bs % 2) (counted 0 n) p 0 0 (omega (arith, length_counted 0 n))
        ∙ ap (λ q. held q ss bs % 2) here
        ∙ omega (arith, cell, small, zero_there)
