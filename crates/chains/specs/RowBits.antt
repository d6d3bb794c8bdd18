-- A row of labels and its bits. Assumes nothing.
use Rattle.std.specs.Prelude.{◌≡◌, ℕ, zero, suc, ◌+◌, ◌-◌, ◌*◌, ◌^◌, ◌<◌, ◌≤◌, List, [], ◌∷◌, ◌++◌, length, take, drop, slice_index, refl}
use Rattle.std.proofs.Common.{sym, ap, ap₂, subst, ◌∙◌, lt_of_lt_of_le, mod-eq_of_lt, add-one, arith, pow_mono}
use Rattle.std.specs.List.{AllByRecursion}
use Rattle.std.proofs.ByRecursion.{All-append, All-take, All-drop}
use Rattle.std.proofs.lemmas.List.{append_assoc, append-nil, take_more, drop_more, length-append, length-drop, length-take-le, take-append-drop, take_at, drop_at}
use Rattle.chains.specs.Bits.{bits_of, spelled, total}
use Rattle.chains.specs.Model.{LabelsFrom, at_stage}
use Rattle.chains.specs.ReedMuller.{row_bits}
use Rattle.chains.specs.Parity.{total_append}
use Rattle.chains.specs.Spelling.{spelled_append, length_bits, bits_small, spelled_bits, spelled_small, bits_spelled}

-- labels below the bounds of their widths, one by one
abbrev pub Fit : List ℕ → List ℕ → Type 0
Fit [] us = Unit {0}
Fit (w ∷ ws) [] = Unit {0}
Fit (w ∷ ws) (x ∷ us) = (x < 2 ^ w) × Fit ws us

pub fit_none : (ws : List ℕ) → Fit ws []
fit_none [] = tt
fit_none (w ∷ ws) = tt

-- the widths from one stage on
pub widths_more : (ws : List ℕ) (j : ℕ) → j < length ws → drop j ws ≡ at_stage ws (suc j) ∷ drop (suc j) ws
widths_more ws j h =
    let here : j ≡ suc j - 1 = omega arith in
    drop_more ws j 0 h ∙ ap₂ (λ k i. slice_index ws k ∷ drop i ws) here (add-one j)

pub fit_from : (ws us : List ℕ) (j : ℕ) → j + length us ≤ length ws → LabelsFrom (at_stage ws) (suc j) us → Fit (drop j ws) us
fit_from ws [] j l a = fit_none (drop j ws)
fit_from ws (x ∷ us) j l a =
    subst (λ (vs : List ℕ). Fit vs (x ∷ us)) (sym (widths_more ws j (omega arith))) (a.0, fit_from ws us (suc j) (omega arith) a.1)

pub from_fit : (ws us : List ℕ) (j : ℕ) → j + length us ≤ length ws → Fit (drop j ws) us → LabelsFrom (at_stage ws) (suc j) us
from_fit ws [] j l a = tt
from_fit ws (x ∷ us) j l a =
    let p = subst (λ (vs : List ℕ). Fit vs (x ∷ us)) (widths_more ws j (omega arith)) a in
    (p.0, from_fit ws us (suc j) (omega arith) p.1)

pub row_bits_small : (ws us : List ℕ) → AllByRecursion (λ b. b < 2) (row_bits ws us)
row_bits_small [] us = tt
row_bits_small (w ∷ ws) [] = tt
row_bits_small (w ∷ ws) (x ∷ us) = All-append (λ b. b < 2) (bits_of w x) (row_bits ws us) (bits_small w x) (row_bits_small ws us)

pub length_row_bits : (ws us : List ℕ) → length us ≤ length ws → length (row_bits ws us) ≡ total (take (length us) ws)
length_row_bits [] [] l = refl
length_row_bits [] (x ∷ us) l = absurd (omega arith)
length_row_bits (w ∷ ws) [] l = refl
length_row_bits (w ∷ ws) (x ∷ us) l =
    length-append (bits_of w x) (row_bits ws us) ∙ ap₂ ◌+◌ (length_bits w x) (length_row_bits ws us (omega arith))

pub row_bits_append : (ws us vs : List ℕ) → length us ≤ length ws → row_bits ws (us ++ vs) ≡ row_bits ws us ++ row_bits (drop (length us) ws) vs
row_bits_append [] [] vs l = refl
row_bits_append [] (x ∷ us) vs l = absurd (omega arith)
row_bits_append (w ∷ ws) [] vs l = refl
row_bits_append (w ∷ ws) (x ∷ us) vs l =
    ap (λ bs. bits_of w x ++ bs) (row_bits_append ws us vs (omega arith)) ∙ sym (append_assoc (bits_of w x) (row_bits ws us) _)

-- the labels that bits spell
abbrev pub cut : List ℕ → List ℕ → List ℕ
cut [] bs = []
cut (w ∷ ws) bs = spelled (take w bs) ∷ cut ws (drop w bs)

pub length_cut : (ws bs : List ℕ) → length (cut ws bs) ≡ length ws
length_cut [] bs = refl
length_cut (w ∷ ws) bs = ap suc (length_cut ws (drop w bs))

pub cut_fits : (ws bs : List ℕ) → length bs ≡ total ws → AllByRecursion (λ b. b < 2) bs → Fit ws (cut ws bs)
cut_fits [] bs l a = tt
cut_fits (w ∷ ws) bs l a =
    let long : length (take w bs) ≡ w = length-take-le w bs (omega arith) in
    (subst (λ (k : ℕ). spelled (take w bs) < 2 ^ k) long (spelled_small (take w bs) (All-take (λ b. b < 2) w bs a)), cut_fits ws (drop w bs) (length-drop w bs ∙ omega arith) (All-drop (λ b. b < 2) w bs a))

-- bits are those of the labels that they spell
pub row_bits_cut : (ws bs : List ℕ) → length bs ≡ total ws → AllByRecursion (λ b. b < 2) bs → row_bits ws (cut ws bs) ≡ bs
row_bits_cut [] [] l a = refl
row_bits_cut [] (b ∷ bs) l a = absurd (omega arith)
row_bits_cut (w ∷ ws) bs l a =
    let long : length (take w bs) ≡ w = length-take-le w bs (omega arith) in
    let first : bits_of w (spelled (take w bs)) ≡ take w bs = ap (λ k. bits_of k (spelled (take w bs))) (sym long) ∙ bits_spelled (take w bs) (All-take (λ b. b < 2) w bs a) in
    ap₂ ◌++◌ first (row_bits_cut ws (drop w bs) (length-drop w bs ∙ omega arith) (All-drop (λ b. b < 2) w bs a)) ∙ take-append-drop w bs

-- and labels are those that their bits spell
pub cut_row_bits : (ws us : List ℕ) → length us ≡ length ws → Fit ws us → cut ws (row_bits ws us) ≡ us
cut_row_bits [] [] l f = refl
cut_row_bits [] (x ∷ us) l f = absurd (omega arith)
cut_row_bits (w ∷ ws) [] l f = absurd (omega arith)
cut_row_bits (w ∷ ws) (x ∷ us) l f =
    let front : take w (bits_of w x ++ row_bits ws us) ≡ bits_of w x = take_at (bits_of w x) _ w (length_bits w x) in
    let back : drop w (bits_of w x ++ row_bits ws us) ≡ row_bits ws us = drop_at (bits_of w x) _ w (length_bits w x) in
    ap₂ ◌∷◌ (ap spelled front ∙ spelled_bits w x ∙ mod-eq_of_lt f.0) (ap (cut ws) back ∙ cut_row_bits ws us (omega arith) f.1)

pub row_bits_none : (ws : List ℕ) → row_bits ws [] ≡ []
row_bits_none [] = refl
row_bits_none (w ∷ ws) = refl

labels_get_or : (width : ℕ → ℕ) (us : List ℕ) (j i : ℕ) → LabelsFrom width j us → i < length us → slice_index us i < 2 ^ width (j + i)
labels_get_or width [] j i a h = absurd (omega arith)
labels_get_or width (x ∷ us) j zero a h = let here : j ≡ j + 0 = omega arith in subst (λ (k : ℕ). x < 2 ^ width k) here a.0
labels_get_or width (x ∷ us) j (suc i) a h =
    let here : suc j + i ≡ j + suc i = omega arith in
    subst (λ (k : ℕ). slice_index us i < 2 ^ width k) here (labels_get_or width us (suc j) i a.1 (omega arith))

-- one label more, as a program joins its bits to those before
pub record Joins (ws labels : List ℕ) (i : ℕ) : Type 0 where
  pub next_bits : spelled (row_bits ws (take i labels)) * 2 ^ slice_index ws i + slice_index labels i ≡ spelled (row_bits ws (take (i + 1) labels))
  pub next_count : length (row_bits ws (take i labels)) + slice_index ws i ≡ length (row_bits ws (take (i + 1) labels))
  pub few : length (row_bits ws (take (i + 1) labels)) ≤ total ws
  pub small : spelled (row_bits ws (take (i + 1) labels)) < 2 ^ total ws

pub length_row_most : (ws us : List ℕ) → length us ≤ length ws → length (row_bits ws us) ≤ total ws
length_row_most ws us h =
    let split = sym (total_append (take (length us) ws) (drop (length us) ws)) ∙ ap total (take-append-drop (length us) ws) in
    omega (arith, length_row_bits ws us h, split)

pub joins : (ws labels : List ℕ) (i : ℕ) → length labels ≤ length ws → LabelsFrom (at_stage ws) 1 labels → i < length labels → Joins ws labels i
joins ws labels i few fit h =
    record {
      next_bits = sym (ap spelled more ∙ spelled_append before_it (bits_of w x) ∙ ap₂ (λ k y. spelled before_it * 2 ^ k + y) (length_bits w x) (spelled_bits w x ∙ mod-eq_of_lt small_label));
      next_count = sym (ap length more ∙ length-append before_it (bits_of w x) ∙ ap (λ k. length before_it + k) (length_bits w x));
      few = length_row_most ws (take (i + 1) labels) short;
      small = lt_of_lt_of_le (spelled_small (row_bits ws (take (i + 1) labels)) (row_bits_small ws (take (i + 1) labels))) (pow_mono {i = length (row_bits ws (take (i + 1) labels))} {j = total ws} (length_row_most ws (take (i + 1) labels) short));
    }
  where
    w : ℕ
    w = slice_index ws i

    x : ℕ
    x = slice_index labels i

    before_it : List ℕ
    before_it = row_bits ws (take i labels)

    short : length (take (i + 1) labels) ≤ length ws
    short = omega (arith, length-take-le (i + 1) labels (omega arith))

    small_label : x < 2 ^ w
    small_label = let here : 1 + i - 1 ≡ i = omega arith in subst (λ (k : ℕ). x < 2 ^ slice_index ws k) here (labels_get_or (at_stage ws) labels 1 i fit h)

    front : length (take i labels) ≡ i
    front = length-take-le i labels (omega arith)

    more : row_bits ws (take (i + 1) labels) ≡ before_it ++ bits_of w x
    more =
        ap (row_bits ws) (take_more labels i 0 h)
        ∙ row_bits_append ws (take i labels) (x ∷ []) (omega (arith, front))
        ∙ ap (λ k. before_it ++ row_bits (drop k ws) (x ∷ [])) front
        ∙ ap (λ vs. before_it ++ row_bits vs (x ∷ [])) (drop_more ws i 0 (omega arith))
        ∙ ap (λ bs. before_it ++ (bits_of w x ++ bs)) (row_bits_none (drop (i + 1) ws))
        ∙ ap (λ bs. before_it ++ bs) (append-nil (bits_of w x))
