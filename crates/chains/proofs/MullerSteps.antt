-- The steps of the program for the Reed-Muller chains, on words that are numbers. Assumes nothing.
use Rattle.std.proofs.Common.{◌≡◌, ℕ, ◌+◌, ◌-◌, ◌*◌, ◌%◌, ◌^◌, ◌<◌, ◌≤◌, true, false, cond, ◌&&◌, eqb, List, [], ◌∷◌, map, length, get_or, take, drop, filter, sym, refl, ap, ◌∙◌, subst, ap₂, ⊎_elim, mod-eq_of_lt, arith, pow_mono}
use lib.Bits.{bit_and, bit_xor, xor_lt}
use lib.Count.{ones}
use Rattle.std.specs.List.{AllByRecursion}
use Rattle.std.proofs.ByRecursion.{All-get_or}
use Rattle.std.proofs.lemmas.List.{drop_all, drop_more, take_all, get_or-map, length-drop, length-map}
use Rattle.std.proofs.lemmas.Bool.{cases_eq, eq-eqb, ne_eqb, cond-false}
use Rattle.chains.specs.Bits.{bits_of, spelled, total}
use Rattle.chains.specs.Model.{LabelsFrom, at_stage}
use Rattle.chains.specs.ReedMuller.{MullerRange, counted, muller_widths, order, row_bits}
use Rattle.chains.specs.Votes.{Column, meet, voice, votes, elected, check_sets, column, columns, added, turned, laid, settled, subsets}
use Rattle.chains.proofs.Masks.{xor_bits, ones_meet, none_meet, meet_none}
use Rattle.chains.specs.Laying.{get_or_counted, length_counted}
use Rattle.chains.specs.MullerColumns.{muller_sizes}
use Rattle.chains.proofs.MullerTables.{subsets_small, set_fits}
use Rattle.chains.specs.RowBits.{Joins, joins}
use Rattle.chains.specs.Spelling.{spelled_front, spelled_more}
use Rattle.chains.specs.Voting.{length_settled, settled_small}

module _ (r : ℕ) (range : MullerRange r) where
  -- a word with a bit's cells turned
  pub turn_word : (s bit word set : ℕ) → s < 2 ^ r → set ≡ subsets (2 ^ r - 1 - s) → (bit ≡ 0 → ⊥) → bits_of (2 ^ r) (bit_xor word set) ≡ turned bit (column r s) (bits_of (2 ^ r) word)
  turn_word s bit word set h is some =
      xor_bits (2 ^ r) word set
      ∙ ap (λ x. added (bits_of (2 ^ r) word) (bits_of (2 ^ r) x)) is
      ∙ sym (cond-false (eqb bit 0) _ _ (ne_eqb bit 0 some))

  pub turn_small : (s word set : ℕ) → s < 2 ^ r → set ≡ subsets (2 ^ r - 1 - s) → word < 2 ^ 2 ^ r → bit_xor word set < 2 ^ 2 ^ r
  turn_small s word set h is small =
      xor_lt (2 ^ r) word set small (subst (λ (x : ℕ). x < 2 ^ 2 ^ r) (sym is) (subsets_small r (2 ^ r - 1 - s) range (omega arith)))

  -- the columns from place t on
  pub columns_more : (t : ℕ) → t < 2 ^ r → drop t (columns r) ≡ column r (get_or (order r) t 0) ∷ drop (t + 1) (columns r)
  columns_more t h =
      let long : t < length (order r) = omega (arith, (muller_sizes r range).many, length-map (order r) (column r)) in
      drop_more (columns r) t (column r 0) (omega (arith, (muller_sizes r range).many)) ∙ ap (λ c. c ∷ drop (t + 1) (columns r)) (get_or-map (column r) (order r) t 0 (column r 0) long)

pub laid_none : (cs : List Column) (y : List ℕ) → laid cs [] y ≡ y
laid_none [] y = refl
laid_none (c ∷ cs) y = refl

-- one label more is joined, by a shift that loses nothing
module _ (r : ℕ) (range : MullerRange r) (labels ws : List ℕ) (i : ℕ) (table : ws ≡ muller_widths r) (few : length labels ≤ r + 1) (fit : LabelsFrom (at_stage (muller_widths r)) 1 labels) (h : i < length labels) where
  pub stage_there : i < length ws
  stage_there = omega (arith, ap length table, (muller_sizes r range).stages)

  pub width_small : get_or ws i 0 ≤ 8
  width_small = All-get_or (λ w. w ≤ 8) ws i 0 stage_there (subst (AllByRecursion (λ w. w ≤ 8)) (sym table) (muller_sizes r range).few_width)

  step : Joins (muller_widths r) labels i
  step = joins (muller_widths r) labels i (omega (arith, (muller_sizes r range).stages)) fit h

  small : spelled (row_bits (muller_widths r) (take (i + 1) labels)) < 65536
  small =
      let most : 2 ^ total (muller_widths r) ≤ 2 ^ 16 = pow_mono {i = total (muller_widths r)} {j = 16} (omega (arith, (muller_sizes r range).bits, (muller_sizes r range).few_cells)) in
      omega (arith, step.small, most)

  pub join_bits : (bits label : ℕ) → bits ≡ spelled (row_bits (muller_widths r) (take i labels)) → label ≡ get_or labels i 0 → (bits * 2 ^ get_or ws i 0 % 65536 + label ≡ spelled (row_bits (muller_widths r) (take (i + 1) labels))) × (bits * 2 ^ get_or ws i 0 % 65536 + label < 65536)
  join_bits bits label eb el =
      let here : bits * 2 ^ get_or ws i 0 ≡ spelled (row_bits (muller_widths r) (take i labels)) * 2 ^ get_or (muller_widths r) i 0 = ap₂ (λ x vs. x * 2 ^ get_or vs i 0) eb table in
      let whole : bits * 2 ^ get_or ws i 0 % 65536 ≡ bits * 2 ^ get_or ws i 0 = mod-eq_of_lt (omega (arith, here, step.next_bits, small)) in
      let next : bits * 2 ^ get_or ws i 0 % 65536 + label ≡ spelled (row_bits (muller_widths r) (take (i + 1) labels)) = omega (arith, whole, here, el, step.next_bits) in
      (next, omega (arith, next, small))

  pub join_count : (count : ℕ) → count ≡ length (row_bits (muller_widths r) (take i labels)) → (count + get_or ws i 0 ≡ length (row_bits (muller_widths r) (take (i + 1) labels))) × (count + get_or ws i 0 ≤ 16)
  join_count count ec =
      let next : count + get_or ws i 0 ≡ length (row_bits (muller_widths r) (take (i + 1) labels)) = ap₂ (λ x vs. x + get_or vs i 0) ec table ∙ step.next_count in
      (next, omega (arith, next, step.few, (muller_sizes r range).bits, (muller_sizes r range).few_cells))

-- a set's vote, as it is read off words that are numbers
pub voice_is : (n b set word blank : ℕ) → set < 2 ^ n → cond (eqb (bit_and blank set) 0 && eqb (ones (bit_and word set) % 2) b) 1 0 ≡ voice b (bits_of n set) (bits_of n word) (bits_of n blank)
voice_is n b set word blank within = ap₂ (λ t u. cond (t && u) 1 0) clear (ap (λ x. eqb (x % 2) b) (ones_meet n word set within))
  where
    clear : eqb (bit_and blank set) 0 ≡ eqb (meet (bits_of n set) (bits_of n blank)) 0
    clear =
        ⊎_elim
        (λ none. eq-eqb _ 0 none ∙ sym (eq-eqb _ 0 (meet_none n blank set none)))
        (λ some. ne_eqb _ 0 some ∙ sym (ne_eqb _ 0 (λ none. some (none_meet n blank set within none))))
        (cases_eq (bit_and blank set) 0)

pub voice_small : (b : ℕ) (set cells marks : List ℕ) → voice b set cells marks ≤ 1
voice_small b set cells marks = elim (eqb (meet set marks) 0 && eqb (meet set cells % 2) b) as (λ t. cond t 1 0 ≤ 1) [ true ↦ omega arith | false ↦ omega arith ]

-- the sets of the numbers from a on
pub counted_more : (n a : ℕ) → a < n → drop a (counted 0 n) ≡ a ∷ drop (a + 1) (counted 0 n)
counted_more n a h =
    let here : get_or (counted 0 n) a 0 ≡ a = get_or_counted 0 n a h ∙ omega arith in
    drop_more (counted 0 n) a 0 (omega (arith, length_counted 0 n)) ∙ ap (λ x. x ∷ drop (a + 1) (counted 0 n)) here

pub sets_free : (n s a : ℕ) → a < n → bit_and a s ≡ 0 → check_sets n s (drop a (counted 0 n)) ≡ bits_of n (subsets s * 2 ^ a) ∷ check_sets n s (drop (a + 1) (counted 0 n))
sets_free n s a h free =
    ap (check_sets n s) (counted_more n a h)
    ∙ ap (λ t. map (λ q. bits_of n (subsets s * 2 ^ q)) (cond t (a ∷ filter (λ q. eqb (bit_and q s) 0) (drop (a + 1) (counted 0 n))) (filter (λ q. eqb (bit_and q s) 0) (drop (a + 1) (counted 0 n))))) (eq-eqb (bit_and a s) 0 free)

pub sets_held : (n s a : ℕ) → a < n → (bit_and a s ≡ 0 → ⊥) → check_sets n s (drop a (counted 0 n)) ≡ check_sets n s (drop (a + 1) (counted 0 n))
sets_held n s a h held =
    ap (check_sets n s) (counted_more n a h)
    ∙ ap (λ t. map (λ q. bits_of n (subsets s * 2 ^ q)) (cond t (a ∷ filter (λ q. eqb (bit_and q s) 0) (drop (a + 1) (counted 0 n))) (filter (λ q. eqb (bit_and q s) 0) (drop (a + 1) (counted 0 n))))) (ne_eqb (bit_and a s) 0 held)

-- the count of the votes for b, one number more
module _ (r : ℕ) (range : MullerRange r) (s a b : ℕ) (cells marks : List ℕ) (hs : s < 2 ^ r) (ha : a < 2 ^ r) where
  pub shifted : (x : ℕ) → x ≡ subsets s → bit_and a s ≡ 0 → (x * 2 ^ a % 65536 ≡ subsets s * 2 ^ a) × (x * 2 ^ a % 65536 < 2 ^ 2 ^ r)
  shifted x is free =
      let small = set_fits r s a range hs ha free in
      let most = pow_mono {i = 2 ^ r} {j = 16} (muller_sizes r range).few_cells in
      let same : x * 2 ^ a ≡ subsets s * 2 ^ a = ap (λ y. y * 2 ^ a) is in
      let whole : x * 2 ^ a % 65536 ≡ subsets s * 2 ^ a = mod-eq_of_lt (omega (arith, same, small, most)) ∙ same in
      (whole, omega (arith, whole, small))

  abbrev Counted : ℕ → ℕ → ℕ → Type 0
  Counted k z all = (z ≤ k) × (z + votes b (check_sets (2 ^ r) s (drop k (counted 0 (2 ^ r)))) cells marks ≡ all)

  pub vote_free : (z y v x all : ℕ) → bit_and a s ≡ 0 → x ≡ subsets s → v ≡ voice b (bits_of (2 ^ r) (x * 2 ^ a % 65536)) cells marks → y ≡ z + v → Counted a z all → Counted (a + 1) y all
  vote_free z y v x all free is voted sum so =
      let n = 2 ^ r in
      let here : v ≡ voice b (bits_of n (subsets s * 2 ^ a)) cells marks = voted ∙ ap (λ set. voice b (bits_of n set) cells marks) (shifted x is free).0 in
      let sets = ap (λ ss. votes b ss cells marks) (sets_free n s a ha free) in
      let one = voice_small b (bits_of n (subsets s * 2 ^ a)) cells marks in
      (omega (arith, so.0, sum, here, one), omega (arith, so.1, sum, here, sets))

  pub vote_held : (z y all : ℕ) → (bit_and a s ≡ 0 → ⊥) → y ≡ z → Counted a z all → Counted (a + 1) y all
  vote_held z y all held sum so =
      let sets = ap (λ ss. votes b ss cells marks) (sets_held (2 ^ r) s a ha held) in
      (omega (arith, so.0, sum), omega (arith, so.1, sum, sets))

pub votes_over : (n s a b z all : ℕ) (cells marks : List ℕ) → n ≤ a → z + votes b (check_sets n s (drop a (counted 0 n))) cells marks ≡ all → z ≡ all
votes_over n s a b z all cells marks h e =
    let none = ap (λ xs. votes b (check_sets n s xs) cells marks) (drop_all a (counted 0 n) (omega (arith, length_counted 0 n))) in
    omega (arith, e, none)

heads : {x y : ℕ} {xs ys : List ℕ} → x ∷ xs ≡ y ∷ ys → x ≡ y
heads e = cc

tails : {x y : ℕ} {xs ys : List ℕ} → x ∷ xs ≡ y ∷ ys → xs ≡ ys
tails e = cc

-- one place more is voted for, of all that are to be settled from place `from` on
module _ (r : ℕ) (range : MullerRange r) (from t : ℕ) (word marks : List ℕ) (begun : from ≤ t) where
  abbrev all : List ℕ
  all = settled (drop from (columns r)) word marks

  abbrev there : Column
  there = column r (get_or (order r) t 0)

  length_all : length all ≡ 2 ^ r - from
  length_all = length_settled (drop from (columns r)) word marks ∙ length-drop from (columns r) ∙ omega (arith, (muller_sizes r range).many)

  pub settle_short : (bits : ℕ) → t ≤ 2 ^ r → bits ≡ spelled (take (t - from) all) → bits < 2 ^ t
  settle_short bits h is =
      subst (λ (x : ℕ). x < 2 ^ t) (sym is) (spelled_front all (t - from) t (settled_small (drop from (columns r)) word marks) (omega arith) (omega (arith, length_all)))

  module _ (h : t < 2 ^ r) (rest next : List ℕ) (bit : ℕ) (voted : bit ≡ elected there.checks rest marks) (turns : next ≡ turned bit there rest) (so : settled (drop t (columns r)) rest marks ≡ drop (t - from) all) where
    place : t - from < length all
    place = omega (arith, length_all)

    further : t - from + 1 ≡ t + 1 - from
    further = omega arith

    opened : bit ∷ settled (drop (t + 1) (columns r)) next marks ≡ get_or all (t - from) 0 ∷ drop (t - from + 1) all
    opened =
        ap (λ b. b ∷ settled (drop (t + 1) (columns r)) next marks) voted
        ∙ ap (λ x. elected there.checks rest marks ∷ settled (drop (t + 1) (columns r)) x marks) (turns ∙ ap (λ b. turned b there rest) voted)
        ∙ ap (λ cs. settled cs rest marks) (sym (columns_more r range t h))
        ∙ so
        ∙ drop_more all (t - from) 0 place

    pub settle_bits : (bits : ℕ) → bits ≡ spelled (take (t - from) all) → 2 * bits + bit ≡ spelled (take (t + 1 - from) all)
    settle_bits bits is =
        omega (arith, is, heads opened, spelled_more all (t - from) place) ∙ ap (λ k. spelled (take k all)) further

    pub settle_rest : settled (drop (t + 1) (columns r)) next marks ≡ drop (t + 1 - from) all
    settle_rest = tails opened ∙ ap (λ k. drop k all) further

    pub settle_laid : laid (drop t (columns r)) (drop (t - from) all) rest ≡ laid (drop (t + 1) (columns r)) (drop (t + 1 - from) all) next
    settle_laid =
        ap₂ (λ cs bs. laid cs bs rest) (columns_more r range t h) (drop_more all (t - from) 0 place)
        ∙ ap (λ b. laid (drop (t + 1) (columns r)) (drop (t - from + 1) all) (turned b there rest)) (sym (heads opened))
        ∙ ap₂ (λ k x. laid (drop (t + 1) (columns r)) (drop k all) x) further (sym turns)

  pub settle_over : 2 ^ r ≤ t → drop (t - from) all ≡ []
  settle_over h = drop_all (t - from) all (omega (arith, length_all))

  pub settle_whole : 2 ^ r ≤ t → take (t - from) all ≡ all
  settle_whole h = take_all (t - from) all (omega (arith, length_all))
