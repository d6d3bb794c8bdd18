-- The even chain is lawful, and its labels mean what they are said to. Assumes nothing.
use Rattle.std.specs.Prelude.{◌≡◌, ℕ, zero, suc, ◌+◌, ◌-◌, ◌%◌, ◌^◌, ◌<◌, ◌≤◌, List, [], ◌∷◌, take, slice_index}
use Rattle.std.proofs.Common.{sym, ap, ◌∙◌, ⊎_elim, mod-eq_of_lt}
use native.Mathlib.Omega.{arith}
use Rattle.std.proofs.ByRecursion.{All-append}
use Rattle.std.proofs.lemmas.List.{length-append, take_at, get_or-take}
use Rattle.std.proofs.lemmas.Bool.{cases_lt}
use Rattle.words.specs.Distance.{differences}
use Rattle.chains.specs.Bits.{bits_of, spelled, total, parity}
use Rattle.chains.specs.Even.{EvenRange, EvenMeaning, even_widths, even_word, even_chain}
use Rattle.chains.specs.Model.{Stage, Row, Cells, FirstDiffer, LawfulChain, at_stage}
use Rattle.chains.specs.Parity.{total_append, differences_parity, same_from_differences}
use Rattle.chains.specs.Spelling.{length_bits, bits_small, spelled_bits}

-- the two stages
pub each_stage : (P : ℕ → Type 0) → P 1 → P 2 → (i : ℕ) → 1 ≤ i → i ≤ 2 → P i
each_stage P one two zero low high = absurd (omega arith)
each_stage P one two (suc zero) low high = one
each_stage P one two (suc (suc zero)) low high = two
each_stage P one two (suc (suc (suc i))) low high = absurd (omega arith)

-- the labels of a row, each below its bound
pub two_labels : (n : ℕ) (u : List ℕ) → Row (even_chain n) u → (at_stage u 1 < 2) × (at_stage u 2 < 2 ^ (n - 1))
two_labels n [] row = absurd (omega (arith, row.0))
two_labels n (a ∷ []) row = absurd (omega (arith, row.0))
two_labels n (a ∷ b ∷ []) row = (row.1.0, row.1.1.0)
two_labels n (a ∷ b ∷ x ∷ u) row = absurd (omega (arith, row.0))

module _ (n : ℕ) (range : EvenRange n) where
  firsts : List ℕ → List ℕ
  firsts u = bits_of (n - 1) (at_stage u 2)

  pub even_cells : (u : List ℕ) → Cells n (even_word n u)
  unfolding firsts
  even_cells u =
      let last = (at_stage u 1 + total (firsts u)) % 2 in (
        length-append (firsts u) (last ∷ []) ∙ omega (arith, length_bits (n - 1) (at_stage u 2)),
        All-append (λ b. b < 2) (firsts u) (last ∷ []) (bits_small (n - 1) (at_stage u 2)) (omega arith, tt),
      )

  pub even_parity : (u : List ℕ) → at_stage u 1 < 2 → parity (even_word n u) ≡ at_stage u 1
  unfolding firsts
  even_parity u small =
      let last = (at_stage u 1 + total (firsts u)) % 2 in
      omega (arith, total_append (firsts u) (last ∷ []))

  pub even_spelled : (u : List ℕ) → at_stage u 2 < 2 ^ (n - 1) → spelled (take (n - 1) (even_word n u)) ≡ at_stage u 2
  even_spelled u small =
      ap spelled (take_at (bits_of (n - 1) (at_stage u 2)) _ (n - 1) (length_bits (n - 1) (at_stage u 2)))
      ∙ spelled_bits (n - 1) (at_stage u 2)
      ∙ mod-eq_of_lt small

  pub even_meaning : EvenMeaning n
  even_meaning u row =
      let labels = two_labels n u row in
      (even_parity u labels.0, even_spelled u labels.1)

  module _ (u v : List ℕ) (ru : Row (even_chain n) u) (rv : Row (even_chain n) v) where
    -- the words differ in an odd number of cells exactly where label 1 differs
    odd : (at_stage u 1 + at_stage v 1 + differences (even_word n u) (even_word n v)) % 2 ≡ 0
    odd =
        let cu = even_cells u in
        let cv = even_cells v in
        omega (arith, differences_parity (even_word n u) (even_word n v) (cu.0 ∙ sym cv.0) cu.1 cv.1, even_parity u (two_labels n u ru).0, even_parity v (two_labels n v rv).0)

    first : FirstDiffer 1 u v → 1 ≤ differences (even_word n u) (even_word n v)
    first differ = ⊎_elim (λ none. absurd (differ.1 (omega (arith, odd, two_labels n u ru, two_labels n v rv)))) (λ some. some) (cases_lt (differences (even_word n u) (even_word n v)) 1)

    same_second : differences (even_word n u) (even_word n v) ≡ 0 → at_stage u 2 ≡ at_stage v 2
    same_second none =
        let same = same_from_differences (even_word n u) (even_word n v) ((even_cells u).0 ∙ sym (even_cells v).0) none in
        sym (even_spelled u (two_labels n u ru).1) ∙ ap (λ w. spelled (take (n - 1) w)) same ∙ even_spelled v (two_labels n v rv).1

    second : FirstDiffer 2 u v → 2 ≤ differences (even_word n u) (even_word n v)
    second differ = ⊎_elim (λ few. absurd (differ.1 (same_second (omega (arith, odd, same_first))))) (λ many. many) (cases_lt (differences (even_word n u) (even_word n v)) 2)
      where
        same_first : at_stage u 1 ≡ at_stage v 1
        same_first = sym (get_or-take 1 u 0 0 (omega arith)) ∙ ap (λ w. slice_index w 0) differ.0 ∙ get_or-take 1 v 0 0 (omega arith)

  apart : (i : ℕ) (u v : List ℕ) → Stage (even_chain n) i → Row (even_chain n) u → Row (even_chain n) v → FirstDiffer i u v → i ≤ differences (even_word n u) (even_word n v)
  apart i u v stage ru rv = each_stage (λ k. FirstDiffer k u v → k ≤ differences (even_word n u) (even_word n v)) (first u v ru rv) (second u v ru rv) i stage.0 stage.1

  pub even_lawful : LawfulChain (even_chain n)
  even_lawful =
      record {
        some_cells = omega arith;
        few_cells = omega arith;
        some_stages = omega arith;
        few_stages = omega arith;
        some_width = λ i s. each_stage (λ k. 1 ≤ at_stage (even_widths n) k) (omega arith) (omega arith) i s.0 s.1;
        few_width = λ i s. each_stage (λ k. at_stage (even_widths n) k ≤ 8) (omega arith) (omega arith) i s.0 s.1;
        some_distance = λ i s. s.0;
        never_falls = λ i j _ _ e. e;
        words = λ u _. even_cells u;
        apart = apart;
      }
