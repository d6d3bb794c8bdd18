-- The Reed-Muller chain is lawful: words that lie too near would both be found in one reading. Assumes nothing.
use Rattle.std.specs.Prelude.{◌≡◌, ℕ, zero, suc, ◌+◌, ◌-◌, ◌^◌, ◌<◌, ◌≤◌, true, false, cond, List, [], ◌∷◌, ◌++◌, length, take, drop, ◌==◌, slice_index, refl}
use Rattle.std.proofs.Common.{sym, ap, ap₂, subst, ◌∙◌, ⊎_elim, arith, pow_mono, pow_pos}
use Rattle.std.specs.List.{AllByRecursion}
use Rattle.std.proofs.ByRecursion.{All-get_or}
use Rattle.std.proofs.lemmas.List.{get_or-drop, length-drop, length-take-le, take-append-drop}
use Rattle.std.proofs.lemmas.Bool.{cases_lt}
use Rattle.words.specs.Distance.{differences}
use Rattle.words.specs.Harm.{harm, harm_at}
use Rattle.chains.specs.Bits.{total}
use Rattle.chains.specs.Model.{Stage, Row, Cells, LabelsFrom, FirstDiffer, LawfulChain, at_stage}
use Rattle.chains.specs.ReedMuller.{MullerRange, muller_widths, muller_word, muller_chain}
use Rattle.chains.specs.Harms.{own_harm}
use Rattle.chains.specs.MullerWords.{word_cells, finds}
use Rattle.chains.specs.RowBits.{Fit, fit_from, cut, cut_row_bits}
use Rattle.chains.specs.MullerColumns.{MullerSizes, muller_sizes}

-- marks at the places where two words differ
unlike : List ℕ → List ℕ → List ℕ
unlike [] ys = []
unlike (x ∷ xs) [] = []
unlike (x ∷ xs) (y ∷ ys) = cond (x == y) 0 1 ∷ unlike xs ys

unlike_cells : (n : ℕ) (u v : List ℕ) → length u ≡ n → length v ≡ n → Cells n (unlike u v)
unfolding unlike
unlike_cells n [] v lu lv = (lu, tt)
unlike_cells n (x ∷ u) [] lu lv = absurd (omega arith)
unlike_cells n (x ∷ u) (y ∷ v) lu lv =
    let rest = unlike_cells (length u) u v refl (omega arith) in
    (ap suc rest.0 ∙ lu, (elim (x == y) as (λ t. cond t 0 1 < 2) [ true ↦ omega arith | false ↦ omega arith ], rest.1))

total_unlike : (u v : List ℕ) → total (unlike u v) ≡ differences u v
unfolding unlike
total_unlike [] v = refl
total_unlike (x ∷ u) [] = refl
total_unlike (x ∷ u) (y ∷ v) = ap (λ k. cond (x == y) 0 1 + k) (total_unlike u v)

unlike_harm : (u v : List ℕ) → harm u (unlike u v) v ≡ differences u v
unfolding unlike
unlike_harm [] v = refl
unlike_harm (x ∷ u) [] = refl
unlike_harm (x ∷ u) (y ∷ v) = ap₂ ◌+◌ here (unlike_harm u v)
  where
    here : harm_at x (cond (x == y) 0 1) y ≡ cond (x == y) 0 1
    here = elim (x == y) as (λ t. ◌≡◌ {A = ℕ} (cond (cond t 0 1 == 0) (cond t 0 2) 1) (cond t 0 1)) [ true ↦ refl | false ↦ refl ]

labels_drop : (width : ℕ → ℕ) (k j : ℕ) (us : List ℕ) → LabelsFrom width j us → LabelsFrom width (k + j) (drop k us)
labels_drop width zero j us a = let here : j ≡ 0 + j = omega arith in subst (λ (i : ℕ). LabelsFrom width i us) here a
labels_drop width (suc k) j [] a = tt
labels_drop width (suc k) j (x ∷ us) a =
    let here : k + suc j ≡ suc k + j = omega arith in
    subst (λ (i : ℕ). LabelsFrom width i (drop k us)) here (labels_drop width k (suc j) us a.1)

module _ (r : ℕ) (range : MullerRange r) where
  abbrev ws : List ℕ
  ws = muller_widths r

  sizes : MullerSizes r
  sizes = muller_sizes r range

  rest_long : (i : ℕ) (u : List ℕ) → Row (muller_chain r) u → length (drop (i - 1) u) ≡ length (drop (i - 1) ws)
  rest_long i u ru = length-drop (i - 1) u ∙ ap (λ k. k - (i - 1)) (ru.0 ∙ sym sizes.stages) ∙ sym (length-drop (i - 1) ws)

  rest_fits : (i : ℕ) (u : List ℕ) → 1 ≤ i → i ≤ r + 1 → Row (muller_chain r) u → Fit (drop (i - 1) ws) (drop (i - 1) u)
  rest_fits i u low high ru =
      let here : i - 1 + 1 ≡ suc (i - 1) = omega arith in
      fit_from ws (drop (i - 1) u) (i - 1) (omega (arith, length-drop (i - 1) u, ru.0, sizes.stages, high))
      (subst (λ (k : ℕ). LabelsFrom (at_stage ws) k (drop (i - 1) u)) here (labels_drop (at_stage ws) (i - 1) 1 u ru.1))

  apart : (i : ℕ) (u v : List ℕ) → Stage (muller_chain r) i → Row (muller_chain r) u → Row (muller_chain r) v → FirstDiffer i u v → 2 ^ (i - 1) ≤ differences (muller_word r u) (muller_word r v)
  apart i u v stage ru rv differ = ⊎_elim near (λ h. h) (cases_lt (differences (muller_word r u) (muller_word r v)) (2 ^ (i - 1)))
    where
      wu : List ℕ
      wu = muller_word r u

      wv : List ℕ
      wv = muller_word r v

      marks : List ℕ
      marks = unlike wu wv

      labels : List ℕ
      labels = take (i - 1) u

      many : length labels ≡ i - 1
      many = length-take-le (i - 1) u (omega (arith, ru.0, stage))

      fm : Cells (2 ^ r) marks
      fm = unlike_cells (2 ^ r) wu wv (word_cells r range u).0 (word_cells r range v).0

      whole_u : u ≡ labels ++ drop (i - 1) u
      whole_u = sym (take-append-drop (i - 1) u)

      whole_v : v ≡ labels ++ drop (i - 1) v
      whole_v = sym (take-append-drop (i - 1) v) ∙ ap (λ xs. xs ++ drop (i - 1) v) (sym differ.0)

      own : harm wu marks wu ≡ differences wu wv
      own = own_harm wu marks (fm.0 ∙ sym (word_cells r range u).0) fm.1 ∙ total_unlike wu wv

      near : differences wu wv < 2 ^ (i - 1) → 2 ^ (i - 1) ≤ differences wu wv
      near few =
          let find = finds r range i labels wu marks stage.0 stage.1 many (word_cells r range u) fm in
          let hu = subst (λ (x : List ℕ). harm wu marks (muller_word r x) < 2 ^ (i - 1)) whole_u (omega (arith, few, own)) in
          let hv = subst (λ (x : List ℕ). harm wu marks (muller_word r x) < 2 ^ (i - 1)) whole_v (omega (arith, few, unlike_harm wu wv)) in
          let bits = sym (find (drop (i - 1) u) (rest_long i u ru) hu) ∙ find (drop (i - 1) v) (rest_long i v rv) hv in
          let rests : drop (i - 1) u ≡ drop (i - 1) v = sym (cut_row_bits (drop (i - 1) ws) (drop (i - 1) u) (rest_long i u ru) (rest_fits i u stage.0 stage.1 ru)) ∙ ap (cut (drop (i - 1) ws)) bits ∙ cut_row_bits (drop (i - 1) ws) (drop (i - 1) v) (rest_long i v rv) (rest_fits i v stage.0 stage.1 rv) in
          let here : i - 1 ≡ i - 1 + 0 = omega arith in
          let label : at_stage u i ≡ at_stage v i = ap (λ k. slice_index u k) here ∙ sym (get_or-drop (i - 1) u 0 0) ∙ ap (λ xs. slice_index xs 0) rests ∙ get_or-drop (i - 1) v 0 0 ∙ ap (λ k. slice_index v k) (sym here) in
          absurd (differ.1 label)

  width_at : (P : ℕ → Type 0) → AllByRecursion P ws → (i : ℕ) → Stage (muller_chain r) i → P (at_stage ws i)
  width_at P all i stage = All-get_or P ws (i - 1) 0 (omega (arith, stage, sizes.stages)) all

  pub muller_lawful : LawfulChain (muller_chain r)
  muller_lawful =
      record {
        some_cells = pow_pos r;
        few_cells = sizes.few_cells;
        some_stages = omega arith;
        few_stages = omega arith;
        some_width = width_at (λ w. 1 ≤ w) sizes.some_width;
        few_width = width_at (λ w. w ≤ 8) sizes.few_width;
        some_distance = λ i _. pow_pos (i - 1);
        never_falls = λ i j _ _ h. pow_mono {i = i - 1} {j = j - 1} (omega arith);
        words = λ u _. word_cells r range u;
        apart = apart;
      }
