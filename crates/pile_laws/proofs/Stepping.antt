-- One stage's step over the row that holds the words chosen so far. Assumes nothing.
use Rattle.std.proofs.Common.{◌≡◌, ℕ, suc, ◌+◌, ◌*◌, ◌<◌, ◌≤◌, List, [], ◌∷◌, ◌++◌, length, get_or, take, drop, Some, None, Ok, Err, Option, Result, sym, ap, ◌∙◌, subst, arith, MatchResult}
use Rattle.std.specs.Option.{MatchOption}
use borrow.Rule.Slice.PartMut.{put_mid}
use Rattle.std.specs.List.{AllByRecursion}
use Rattle.std.proofs.lemmas.List.{length-drop, length-take-le}
use Rattle.words.specs.declared.fault.Fault.{Fault}
use Rattle.chains.specs.declared.chain.Estimate.{Estimate}
use Rattle.chains.specs.Model.{ChainModel, LawfulChain, LabelsFrom, Row}
use Rattle.chains.specs.Promises.{Estimates}
use Rattle.codes.specs.Model.{CodeModel}
use Rattle.stage_laws.specs.Promises.{Choice, Chose}
use Rattle.pile_laws.specs.Build.{columns, labels_at, laid}
use Rattle.pile_laws.specs.Fit.{EachLawful, Fits}
use Rattle.pile_laws.specs.Flat.{words_in}
use Rattle.pile_laws.specs.Stages.{Choices, ColumnEstimates, NextChoice, NoChoice, code_at, column, no_code}
use Rattle.pile_laws.proofs.Choosing.{choices_more, chosen_words, stage_answer}
use Rattle.pile_laws.proofs.Fitting.{fitting}
use Rattle.pile_laws.proofs.Flat.{column_written, length_words_in, words_in_more, words_kept}
use Rattle.pile_laws.proofs.Rows.{labels_fit, laid_cells, row_at}

module _ (h : ChainModel) (cs : List CodeModel) (laws : EachLawful cs) (fits : Fits h cs) (word marks : List ℕ) (n : ℕ) (over : n ≡ columns cs) (k : ℕ) (row : List ℕ) (choices : Choices h cs word marks (words_in n k row)) where
  pub labels_chosen : k ≤ length cs → (j : ℕ) → j < n → LabelsFrom h.width 1 (labels_at (words_in n k row) j)
  labels_chosen few j l =
      let less : length (words_in n k row) ≤ length cs = omega (arith, length_words_in n k row) in
      labels_fit h (columns cs) cs (fitting h cs fits).0 (words_in n k row) (chosen_words h cs laws fits word marks (words_in n k row) less choices) less j (omega (arith, over))

  pub rows_chosen : (law : LawfulChain h) → k ≡ length cs → (j : ℕ) → j < n → Row h (labels_at (words_in n k row) j)
  rows_chosen law all j l =
      let many : length (words_in n k row) ≡ length cs = length_words_in n k row ∙ all in
      let less : length (words_in n k row) ≤ length cs = omega (arith, many) in
      row_at h (columns cs) cs (fitting h cs fits).0 (words_in n k row) (chosen_words h cs laws fits word marks (words_in n k row) less choices) less law many j (omega (arith, over))

  module _ (few : k < length cs) (es : List (Option Estimate)) (les : length es ≡ n) (each : (j : ℕ) → j < n → Estimates h (suc k) (labels_at (words_in n k row) j) (column h.breadth j word) (column h.breadth j marks) (get_or es j None)) where
    pub column_estimates : ColumnEstimates h cs word marks (words_in n k row) es
    column_estimates =
        (les ∙ over, λ j l. subst (λ (i : ℕ). Estimates h (suc i) (labels_at (words_in n k row) j) (column h.breadth j word) (column h.breadth j marks) (get_or es j None)) (sym (length_words_in n k row)) (each j (omega (arith, over))))

    module _ (c : CodeModel) (is : c ≡ get_or cs k no_code) (d : ℕ) (distance : d ≡ h.distance (suc k)) (room : n * k + n ≤ length row) (span : ℕ) (whole : span ≡ n) (part' : List ℕ) (long : length part' ≡ n) (r : Result (Option ℕ) Fault) (chose : Chose c d es (take span (drop (n * k) row)) part' r) where
      answered : MatchResult r (Choice (code_at cs (suc (length (words_in n k row)))) (h.distance (suc (length (words_in n k row)))) es (take span (drop (n * k) row)) part') (λ _. ⊥)
      answered =
          let m = sym (length_words_in n k row) in
          let part : length (take span (drop (n * k) row)) ≡ columns cs = ap (λ (i : ℕ). length (take i (drop (n * k) row))) whole ∙ length-take-le n (drop (n * k) row) (omega (arith, length-drop (n * k) row, room)) ∙ over in
          stage_answer h cs fits word marks (words_in n k row) (omega (arith, length_words_in n k row)) es column_estimates c (is ∙ ap (λ (i : ℕ). get_or cs i no_code) m) d (distance ∙ ap (λ (i : ℕ). h.distance (suc i)) m) (take span (drop (n * k) row)) part' r part chose

      -- the choice stands behind the words before it, or there is none
      abbrev pub Outcome : Result (Option ℕ) Fault → Type 0
      Outcome q =
          MatchResult q (λ o. MatchOption o (NoChoice h cs word marks (words_in n k row)) (λ _. (words_in n k (put_mid (n * k) span row part') ≡ words_in n k row) × NextChoice h cs word marks (words_in n k row) (column n k (put_mid (n * k) span row part'))))
          (λ _. ⊥)

      outcome_of : (q : Result (Option ℕ) Fault) → MatchResult q (Choice (code_at cs (suc (length (words_in n k row)))) (h.distance (suc (length (words_in n k row)))) es (take span (drop (n * k) row)) part') (λ _. ⊥) → Outcome q
      outcome_of (Ok (Some x)) choice =
          let written : column n k (put_mid (n * k) span row part') ≡ part' = ap (λ (i : ℕ). column n k (put_mid (n * k) i row part')) whole ∙ column_written n k row part' (omega arith) long in
          (ap (λ (i : ℕ). words_in n k (put_mid (n * k) i row part')) whole ∙ words_kept n k row part' (omega arith), (es, column_estimates, (choice.0, choice.1, written ∙ choice.2)))
      outcome_of (Ok None) choice = (es, column_estimates, choice.1)
      outcome_of (Err f) never = never

      pub stage_outcome : Outcome r
      stage_outcome = outcome_of r answered

  -- with its choice behind them, the words chosen are one more
  pub choices_step : (row' : List ℕ) → words_in n k row' ≡ words_in n k row → NextChoice h cs word marks (words_in n k row) (column n k row') → Choices h cs word marks (words_in n (k + 1) row')
  choices_step row' same next =
      subst (Choices h cs word marks) (sym (words_in_more n k row' ∙ ap (λ ws. ws ++ (column n k row' ∷ [])) same)) (choices_more h cs word marks (words_in n k row) (column n k row') choices next)

  -- the word that all choices make
  pub laid_chosen : (law : LawfulChain h) → k ≡ length cs → (length (laid h n (words_in n k row)) ≡ h.breadth * n) × AllByRecursion (λ x. x < 2) (laid h n (words_in n k row))
  laid_chosen law all =
      let many : length (words_in n k row) ≡ length cs = length_words_in n k row ∙ all in
      let less : length (words_in n k row) ≤ length cs = omega (arith, many) in
      laid_cells h (columns cs) cs (fitting h cs fits).0 (words_in n k row) (chosen_words h cs laws fits word marks (words_in n k row) less choices) less law many n 0 (omega (arith, over))
