-- The words of the Reed-Muller chain, and what its votes find. Assumes nothing.
use Rattle.std.specs.Prelude.{◌≡◌, ℕ, suc, ◌+◌, ◌-◌, ◌^◌, ◌<◌, ◌≤◌, List, ◌∷◌, ◌++◌, length, take, drop, replicate, Some, None, slice_index}
use Rattle.std.proofs.Common.{sym, ap, subst, ◌∙◌, ⊎_elim, arith}
use Rattle.std.specs.List.{AllByRecursion}
use Rattle.std.proofs.ByRecursion.{All-weaker}
use Rattle.std.proofs.lemmas.List.{length-append, length-drop, take-append-drop, take_all, take_at, get_or_at}
use Rattle.std.proofs.lemmas.Bool.{cases_lt}
use Rattle.words.specs.Harm.{harm}
use Rattle.chains.specs.Bits.{spelled, total}
use Rattle.chains.specs.Model.{Row, Cells, LabelsFrom, at_stage}
use Rattle.chains.specs.Promises.{Estimates}
use Rattle.chains.specs.ReedMuller.{MullerRange, muller_widths, muller_word, muller_chain, order, row_bits}
use Rattle.chains.specs.Votes.{Column, column, columns, laid, left_harm, decided_bits, found_bits, found_harm}
use Rattle.chains.specs.FromLaw.{labels_append}
use Rattle.chains.specs.Laying.{zeros_cells, harm_laid, laid_append, word_laid}
use Rattle.chains.specs.Parity.{total_append}
use Rattle.chains.specs.RowBits.{Fit, from_fit, widths_more, row_bits_small, length_row_bits, row_bits_append, cut, length_cut, cut_fits, row_bits_cut}
use Rattle.chains.specs.MullerColumns.{MullerSizes, muller_good, muller_enough, muller_reach, muller_sizes}
use Rattle.chains.specs.Voting.{laid_cells, settles, length_settled, settled_small, good_drop}

total_split : (k : ℕ) (ws : List ℕ) → total (take k ws) + total (drop k ws) ≡ total ws
total_split k ws = sym (total_append (take k ws) (drop k ws)) ∙ ap total (take-append-drop k ws)

module _ (r : ℕ) (range : MullerRange r) where
  -- a row's word is what its bits leave
  pub word_is : (u : List ℕ) → muller_word r u ≡ laid (columns r) (row_bits (muller_widths r) u) (replicate (2 ^ r) 0)
  word_is u = word_laid (2 ^ r) (column r) (order r) (row_bits (muller_widths r) u) (muller_good r range) (row_bits_small (muller_widths r) u) (λ p at. muller_reach r p range at)

  pub word_cells : (u : List ℕ) → Cells (2 ^ r) (muller_word r u)
  word_cells u = subst (Cells (2 ^ r)) (sym (word_is u)) (laid_cells (2 ^ r) (columns r) (row_bits (muller_widths r) u) (replicate (2 ^ r) 0) (muller_good r range) (zeros_cells (2 ^ r)))

  harm_is : (u y m : List ℕ) → Cells (2 ^ r) y → Cells (2 ^ r) m → harm y m (muller_word r u) ≡ left_harm (laid (columns r) (row_bits (muller_widths r) u) y) m
  harm_is u y m fy fm = ap (harm y m) (word_is u) ∙ harm_laid (2 ^ r) (columns r) (row_bits (muller_widths r) u) y m (muller_good r range) fy fm

  -- a stage, the labels before it, and a reading
  module _ (i : ℕ) (labels y m : List ℕ) (low : 1 ≤ i) (high : i ≤ r + 1) (many : length labels ≡ i - 1) (fy : Cells (2 ^ r) y) (fm : Cells (2 ^ r) m) where
    abbrev pub ws : List ℕ
    ws = muller_widths r

    abbrev pub decided : List ℕ
    decided = decided_bits r labels

    -- the bits that are left to find, the reading without the decided ones, and what the votes find
    abbrev pub open_columns : List Column
    open_columns = drop (length decided) (columns r)

    abbrev pub begun : List ℕ
    begun = laid (columns r) decided y

    abbrev pub found : List ℕ
    found = found_bits r labels y m

    sizes : MullerSizes r
    sizes = muller_sizes r range

    pub length_decided : length decided ≡ total (take (i - 1) ws)
    length_decided = length_row_bits ws labels (omega (arith, many, sizes.stages)) ∙ ap (λ k. total (take k ws)) many

    fits_in : length decided ≤ length (columns r)
    fits_in = omega (arith, length_decided, total_split (i - 1) ws, sizes.bits, sizes.many)

    pub length_open : length open_columns ≡ total (drop (i - 1) ws)
    length_open = length-drop (length decided) (columns r) ∙ omega (arith, length_decided, total_split (i - 1) ws, sizes.bits, sizes.many)

    pub length_found : length found ≡ 2 ^ r - length decided
    length_found = length_settled open_columns begun m ∙ length-drop (length decided) (columns r) ∙ ap (λ k. k - length decided) sizes.many

    -- the stage's own bits are among those that are open
    pub room : length decided + at_stage ws i ≤ 2 ^ r
    room =
        let here : suc (i - 1) ≡ i = omega arith in
        let open_widths : drop (i - 1) ws ≡ at_stage ws i ∷ drop i ws = widths_more ws (i - 1) (omega (arith, sizes.stages)) ∙ ap (λ k. at_stage ws k ∷ drop k ws) here in
        omega (arith, length_decided, total_split (i - 1) ws, ap total open_widths, sizes.bits)

    -- the harm against a row that begins with the labels, by what is left of the reading
    left_is : (rest : List ℕ) → harm y m (muller_word r (labels ++ rest)) ≡ left_harm (laid open_columns (row_bits (drop (i - 1) ws) rest) begun) m
    left_is rest =
        let bits : row_bits ws (labels ++ rest) ≡ decided ++ row_bits (drop (i - 1) ws) rest = row_bits_append ws labels rest (omega (arith, many, sizes.stages)) ∙ ap (λ k. decided ++ row_bits (drop k ws) rest) many in
        harm_is (labels ++ rest) y m fy fm
        ∙ ap (λ bs. left_harm (laid (columns r) bs y) m) bits
        ∙ ap (λ e. left_harm e m) (laid_append (columns r) decided (row_bits (drop (i - 1) ws) rest) y fits_in)

    -- the votes find the rest of every row that is near enough
    pub finds : (rest : List ℕ) → length rest ≡ length (drop (i - 1) ws) → harm y m (muller_word r (labels ++ rest)) < 2 ^ (i - 1) → found ≡ row_bits (drop (i - 1) ws) rest
    finds rest long near =
        let bits = row_bits (drop (i - 1) ws) rest in
        let e = laid open_columns bits begun in
        let few : left_harm e m < 2 ^ (i - 1) = subst (λ (k : ℕ). k < 2 ^ (i - 1)) (left_is rest) near in
        let enough = subst (λ (k : ℕ). AllByRecursion (λ (c : Column). 2 ^ (i - 1) ≤ length c.checks) (drop k (columns r))) (sym length_decided) (muller_enough r i range low high) in
        let whole : length bits ≡ length open_columns = length_row_bits (drop (i - 1) ws) rest (omega (arith, long)) ∙ ap total (take_all (length rest) (drop (i - 1) ws) (omega (arith, long))) ∙ sym length_open in
        settles (2 ^ r) open_columns bits begun m (good_drop (2 ^ r) (length decided) (columns r) (muller_good r range)) (laid_cells (2 ^ r) (columns r) decided y (muller_good r range) fy) fm (row_bits_small (drop (i - 1) ws) rest) whole
        (All-weaker (λ (c : Column). 2 ^ (i - 1) ≤ length c.checks) (λ (c : Column). left_harm e m < length c.checks) (λ c h. omega (arith, few, h)) open_columns enough)

    -- the row that was found, and its harm
    abbrev pub later : List ℕ
    later = cut (drop (i - 1) ws) found

    later_bits : row_bits (drop (i - 1) ws) later ≡ found
    later_bits = row_bits_cut (drop (i - 1) ws) found (length_settled open_columns begun m ∙ length_open) (settled_small open_columns begun m)

    abbrev pub final_harm : ℕ
    final_harm = found_harm r labels y m

    final_is : harm y m (muller_word r (labels ++ later)) ≡ final_harm
    final_is = left_is later ∙ ap (λ bs. left_harm (laid open_columns bs begun) m) later_bits

    module _ (each : LabelsFrom (at_stage ws) 1 labels) where
      later_long : length later ≡ length (drop (i - 1) ws)
      later_long = length_cut (drop (i - 1) ws) found

      found_row : Row (muller_chain r) (labels ++ later)
      found_row =
          let stages : length (drop (i - 1) ws) ≡ r + 1 - (i - 1) = length-drop (i - 1) ws ∙ omega (arith, sizes.stages) in
          let fit : Fit (drop (i - 1) ws) later = cut_fits (drop (i - 1) ws) found (length_settled open_columns begun m ∙ length_open) (settled_small open_columns begun m) in
          let after : LabelsFrom (at_stage ws) (suc (i - 1)) later = from_fit ws later (i - 1) (omega (arith, later_long, stages, sizes.stages)) fit in
          let here : suc (i - 1) ≡ 1 + length labels = omega (arith, many) in
          (length-append labels later ∙ omega (arith, many, later_long, stages), labels_append (at_stage ws) labels later 1 each (subst (λ (k : ℕ). LabelsFrom (at_stage ws) k later) here after))

      label_is : at_stage (labels ++ later) i ≡ spelled (take (at_stage ws i) found)
      label_is =
          let here : suc (i - 1) ≡ i = omega arith in
          let open_widths : drop (i - 1) ws ≡ at_stage ws i ∷ drop i ws = widths_more ws (i - 1) (omega (arith, sizes.stages)) ∙ ap (λ k. at_stage ws k ∷ drop k ws) here in
          ap (λ vs. slice_index (labels ++ cut vs found) (i - 1)) open_widths ∙ get_or_at labels (spelled (take (at_stage ws i) found)) _ 0 (i - 1) many

      pub muller_some : final_harm < 2 ^ (i - 1) → Estimates (muller_chain r) i labels y m (Some (record { label = spelled (take (at_stage ws i) found); harm = final_harm }))
      muller_some near = (labels ++ later, (found_row, take_at labels later (i - 1) many), sym label_is, sym final_is, near)

      pub muller_none : 2 ^ (i - 1) ≤ final_harm → Estimates (muller_chain r) i labels y m None
      muller_none far v follows = ⊎_elim near (λ h. h) (cases_lt (harm y m (muller_word r v)) (2 ^ (i - 1)))
        where
          rest : List ℕ
          rest = drop (i - 1) v

          whole : v ≡ labels ++ rest
          whole = sym (take-append-drop (i - 1) v) ∙ ap (λ u. u ++ drop (i - 1) v) follows.1

          near : harm y m (muller_word r v) < 2 ^ (i - 1) → 2 ^ (i - 1) ≤ harm y m (muller_word r v)
          near h =
              let here = subst (λ (u : List ℕ). harm y m (muller_word r u) < 2 ^ (i - 1)) whole h in
              let long : length rest ≡ length (drop (i - 1) ws) = length-drop (i - 1) v ∙ ap (λ k. k - (i - 1)) (follows.0.0 ∙ sym sizes.stages) ∙ sym (length-drop (i - 1) ws) in
              let same : harm y m (muller_word r (labels ++ rest)) ≡ final_harm = left_is rest ∙ ap (λ bs. left_harm (laid open_columns bs begun) m) (sym (finds rest long here)) in
              omega (arith, far, here, same)
