-- The labels of a chain have no more bits together than it has cells, since different rows have different words. Assumes nothing.
use Rattle.std.proofs.Common.{◌≡◌, ℕ, suc, ◌-◌, ◌*◌, ◌^◌, ◌<◌, ◌≤◌, List, [], ◌∷◌, map, length, get_or, take, sym, refl, ap, ◌∙◌, subst, ⊎_elim, mod-eq_of_lt, mul_comm, mul-le-mul, mul-le-mul_left, mul-add, arith}
use Rattle.std.proofs.lemmas.Bool.{eq-eqb}
use Rattle.algebra.specs.Sums.{Injective}
use Rattle.algebra.proofs.Sums.{pigeonhole_pow}
use Rattle.words.specs.Distance.{differences}
use Rattle.chains.specs.Bits.{bits_of, spelled, total}
use Rattle.chains.specs.Model.{ChainModel, LawfulChain, LabelsFrom, Row, Stage, FirstDiffer}
use Rattle.chains.specs.ReedMuller.{row_bits}
use Rattle.chains.specs.FromLaw.{DifferFrom, same_or_differ}
use Rattle.chains.specs.RowBits.{Fit, cut, length_cut, cut_fits, row_bits_cut}
use Rattle.chains.specs.Spelling.{length_bits, bits_small, spelled_bits, spelled_small, bits_spelled}
use Rattle.codes.specs.Model.{CodeModel}
use Rattle.pile_laws.specs.Build.{total_bits}
use Rattle.pile_laws.specs.Fit.{EachLawful}
use Rattle.pile_laws.proofs.Fitting.{Fitting, fitting_length}

abbrev widths : List CodeModel → List ℕ
widths cs = map (λ (c : CodeModel). c.width) cs

length_widths : (cs : List CodeModel) → length (widths cs) ≡ length cs
length_widths [] = refl
length_widths (c ∷ cs) = ap suc (length_widths cs)

fit_labels : (h : ChainModel) (n i : ℕ) (cs : List CodeModel) (us : List ℕ) → Fitting h n i cs → length us ≤ length cs → Fit (widths cs) us → LabelsFrom h.width i us
fit_labels h n i cs [] fit l f = tt
fit_labels h n i [] (x ∷ us) fit l f = absurd (omega arith)
fit_labels h n i (c ∷ cs) (x ∷ us) fit l f =
    (subst (λ (m : ℕ). x < 2 ^ m) fit.1 f.0, fit_labels h n (suc i) cs us fit.3 (omega arith) f.1)

no_differences : (w : List ℕ) → differences w w ≡ 0
no_differences [] = refl
no_differences (x ∷ w) = rw (eq-eqb x x refl) (omega (arith, no_differences w))

module _ (h : ChainModel) (law : LawfulChain h) where
  -- rows with the same word are the same
  same_word : (u v : List ℕ) → Row h u → Row h v → h.word u ≡ h.word v → u ≡ v
  same_word u v ru rv e = ⊎_elim (λ same. same) (λ d. absurd (apart d)) (same_or_differ u v (ru.0 ∙ sym rv.0))
    where
      apart : (j : ℕ) × DifferFrom u v j → ⊥
      apart d =
          let j = d.0 in
          let here : j ≡ suc j - 1 = omega arith in
          let at : Stage h (suc j) = (omega arith, omega (arith, d.1.0, ru.0)) in
          let first : FirstDiffer (suc j) u v = subst (λ (k : ℕ). (take k u ≡ take k v) × (get_or u k 0 ≡ get_or v k 0 → ⊥)) here (d.1.1, d.1.2) in
          omega (arith, law.apart (suc j) u v at ru rv first, law.some_distance (suc j) at, ap (differences (h.word u)) (sym e), no_differences (h.word u))

  module _ (n : ℕ) (cs : List CodeModel) (fit : Fitting h n 1 cs) where
    abbrev bits : ℕ → List ℕ
    bits x = bits_of (total (widths cs)) x

    abbrev row : ℕ → List ℕ
    row x = cut (widths cs) (bits x)

    row_is : (x : ℕ) → Row h (row x)
    row_is x =
        let long = length_cut (widths cs) (bits x) in
        (long ∙ omega (arith, length_widths cs, fitting_length h n 1 cs (omega arith) (omega arith) fit), fit_labels h n 1 cs (row x) fit (omega (arith, long, length_widths cs)) (cut_fits (widths cs) (bits x) (length_bits (total (widths cs)) x) (bits_small (total (widths cs)) x)))

    bits_row : (x : ℕ) → row_bits (widths cs) (row x) ≡ bits x
    bits_row x = row_bits_cut (widths cs) (bits x) (length_bits (total (widths cs)) x) (bits_small (total (widths cs)) x)

    number : ℕ → ℕ
    number x = spelled (h.word (row x))

    numbers_small : (x : ℕ) → number x < 2 ^ h.breadth
    unfolding number
    numbers_small x =
        let cells = law.words (row x) (row_is x) in
        subst (λ (k : ℕ). spelled (h.word (row x)) < 2 ^ k) cells.0 (spelled_small (h.word (row x)) cells.1)

    word_again : (x : ℕ) → bits_of h.breadth (number x) ≡ h.word (row x)
    unfolding number
    word_again x =
        let cells = law.words (row x) (row_is x) in
        ap (λ (k : ℕ). bits_of k (spelled (h.word (row x)))) (sym cells.0) ∙ bits_spelled (h.word (row x)) cells.1

    injective : Injective (2 ^ total (widths cs)) number
    injective x y lx ly e =
        let words : h.word (row x) ≡ h.word (row y) = sym (word_again x) ∙ ap (bits_of h.breadth) e ∙ word_again y in
        let rows = same_word (row x) (row y) (row_is x) (row_is y) words in
        let same : bits x ≡ bits y = sym (bits_row x) ∙ ap (row_bits (widths cs)) rows ∙ bits_row y in
        sym (mod-eq_of_lt lx) ∙ sym (spelled_bits (total (widths cs)) x) ∙ ap spelled same ∙ spelled_bits (total (widths cs)) y ∙ mod-eq_of_lt ly

    few_bits : total (widths cs) ≤ h.breadth
    few_bits = pigeonhole_pow number (total (widths cs)) h.breadth (λ x l. numbers_small x) injective

bits_most : (h : ChainModel) (n i : ℕ) (cs : List CodeModel) → Fitting h n i cs → EachLawful cs → total_bits cs ≤ n * total (widths cs)
bits_most h n i [] fit laws = omega arith
bits_most h n i (c ∷ cs) fit laws =
    let short : c.message_len ≤ n = omega (arith, laws.0.message_within, fit.2) in
    omega (arith, mul-le-mul {n₁ = c.message_len} {m₁ = c.width} {n₂ = n} {m₂ = c.width} short (omega arith), bits_most h n (suc i) cs fit.3 laws.1, mul-add n c.width (total (widths cs)))

-- a pile's message is no longer than its codeword
pub message_fits : (h : ChainModel) (law : LawfulChain h) (n : ℕ) (cs : List CodeModel) → Fitting h n 1 cs → EachLawful cs → total_bits cs ≤ h.breadth * n
message_fits h law n cs fit laws =
    omega (arith, bits_most h n 1 cs fit laws, mul-le-mul_left n (few_bits h law n cs fit), mul_comm n h.breadth)
