-- Where a codeword lies nearer than the reach, every stage chooses that codeword's own word. Assumes nothing.
use Rattle.std.proofs.Common.{◌≡◌, ℕ, zero, suc, ◌+◌, ◌-◌, ◌*◌, ◌<◌, ◌≤◌, Bool, true, false, cond, eqb, List, [], length, get_or, take, Some, None, Option, sym, refl, ap, ◌∙◌, subst, arith}
use mathlib.Core.List.{List-discrete}
use native.Mathlib.Decide.{ℕ_discrete}
use Rattle.std.specs.List.{AllByRecursion}
use Rattle.std.proofs.ByRecursion.{All-from_get_or}
use Rattle.std.proofs.lemmas.List.{length-take-le, take_all, take_more_same}
use Rattle.std.proofs.lemmas.Bool.{eq-eqb}
use Rattle.algebra.proofs.Sums.{total_le}
use Rattle.words.specs.Harm.{harm}
use Rattle.chains.specs.declared.chain.Estimate.{Estimate}
use Rattle.chains.specs.Model.{ChainModel, LawfulChain, Row, Stage, before, at_stage}
use Rattle.chains.specs.Promises.{Estimates}
use Rattle.chains.specs.FromLaw.{two_rows}
use Rattle.codes.specs.Model.{CodeModel, Lawful, Message, Near}
use Rattle.stage_laws.specs.Rule.{Chosen, score, score_at}
use Rattle.pile_laws.specs.Build.{columns, labels_at, laid, reach, stage_messages, stage_words}
use Rattle.pile_laws.specs.Fit.{EachLawful, Fits}
use Rattle.pile_laws.specs.Pile.{pile}
use Rattle.pile_laws.specs.Stages.{Choices, ColumnEstimates, NextChoice, NoChoice, code_at, column}
use Rattle.pile_laws.proofs.Columns.{column_harm, harm_laid, length_column, score_total}
use Rattle.pile_laws.proofs.Fitting.{Fitting, code_after, fitting, fitting_at, lawful_at}
use Rattle.pile_laws.proofs.Law.{messages, many, row_length, words_of}
use Rattle.pile_laws.proofs.Messages.{EachMessage}
use Rattle.pile_laws.proofs.OnePlace.{one_here, stage}
use Rattle.pile_laws.proofs.Reach.{reach_each}
use Rattle.pile_laws.proofs.Rows.{encoded_at, label_at, labels_before, row_at}

-- a row that begins with the decided labels scores no more in its column than its harm
column_score : (h : ChainModel) (law : LawfulChain h) (i : ℕ) (u cells marks : List ℕ) (e : Option Estimate) → Stage h i → Row h u → length cells ≡ h.breadth → length marks ≡ h.breadth → Estimates h i (before i u) cells marks e → score_at (h.distance i) e (at_stage u i) ≤ harm cells marks (h.word u)
column_score h law i u cells marks None stage row lc lm est = est u (row, refl)
column_score h law i u cells marks (Some e) stage row lc lm est = by (List-discrete ℕ_discrete u est.0)
  where
    agrees : u ≡ est.0 → (t : Bool) → t ≡ true → cond t e.harm (2 * h.distance i - e.harm) ≤ harm cells marks (h.word u)
    agrees same true is = omega (arith, est.3, ap (λ v. harm cells marks (h.word v)) same)
    agrees same false is = let z : ◌≡◌ {A = ℕ} 0 1 = cc in absurd (omega arith)

    far : 2 * h.distance i ≤ harm cells marks (h.word u) + harm cells marks (h.word est.0) → (t : Bool) → cond t e.harm (2 * h.distance i - e.harm) ≤ harm cells marks (h.word u)
    far sum true = omega (arith, est.3, est.4)
    far sum false = omega (arith, est.3, est.4)

    by : Dec (u ≡ est.0) → cond (eqb e.label (at_stage u i)) e.harm (2 * h.distance i - e.harm) ≤ harm cells marks (h.word u)
    by (yes same) = agrees same (eqb e.label (at_stage u i)) (eq-eqb e.label (at_stage u i) (est.2 ∙ ap (λ v. at_stage v i) (sym same)))
    by (no unlike) = far (two_rows h law i u est.0 cells marks stage row est.1.0 (sym est.1.1) unlike lc lm) (eqb e.label (at_stage u i))

module _ (h : ChainModel) (law : LawfulChain h) (cs : List CodeModel) (laws : EachLawful cs) (fits : Fits h cs) (word marks : List ℕ) (lw : length word ≡ h.breadth * columns cs) (lm : length marks ≡ h.breadth * columns cs) where
  fit : Fitting h (columns cs) 1 cs
  fit = (fitting h cs fits).0

  module _ (chosen : List (List ℕ)) (few : length chosen < length cs) where
    pub reach_here : reach h cs ≤ h.distance (suc (length chosen)) * (code_at cs (suc (length chosen))).distance
    reach_here = subst (λ (c : CodeModel). reach h cs ≤ h.distance (suc (length chosen)) * c.distance) (sym (code_after cs (length chosen))) (reach_each h (length chosen) cs few)

    module _ (u : List ℕ) (near : Near (pile h cs) word marks u) (begun : chosen ≡ take (length chosen) (stage_words cs u)) where
      eu : EachMessage cs (stage_messages cs u)
      eu = messages h law cs laws fits u near.0

      all : length (stage_words cs u) ≡ length cs
      all = many h law cs laws fits (stage_messages cs u) eu

      -- the codeword's own message at the stage
      pub own_message : List ℕ
      own_message = get_or (stage_messages cs u) (length chosen) []

      pub own_word : ((code_at cs (suc (length chosen))).codeword own_message ≡ get_or (stage_words cs u) (length chosen) []) × Message (code_at cs (suc (length chosen))) own_message
      unfolding own_message
      own_word =
          let at = encoded_at cs (stage_messages cs u) (length chosen) few eu in
          subst (λ (c : CodeModel). (c.codeword (get_or (stage_messages cs u) (length chosen) []) ≡ get_or (stage_words cs u) (length chosen) []) × Message c (get_or (stage_messages cs u) (length chosen) [])) (sym (code_after cs (length chosen))) (sym at.0, at.1)

      pub own_chosen : (es : List (Option Estimate)) → ColumnEstimates h cs word marks chosen es → Chosen (code_at cs (suc (length chosen))) (h.distance (suc (length chosen))) es own_message
      own_chosen es est =
          let k = length chosen in
          let d = h.distance (suc k) in
          let w = get_or (stage_words cs u) k [] in
          let here : suc k - 1 ≡ k = omega arith in
          let of = words_of h law cs laws fits (stage_messages cs u) eu in
          let each : (j : ℕ) → j < columns cs → score_at d (get_or es j None) (get_or w j 0) ≤ column_harm h (stage_words cs u) h.breadth word marks j = λ j l.
          let row = row_at h (columns cs) cs fit (stage_words cs u) of (omega (arith, all)) law all j l in
          let decided : labels_at chosen j ≡ before (suc k) (labels_at (stage_words cs u) j) =
          ap (λ ws. labels_at ws j) begun ∙ sym (labels_before (stage_words cs u) k j) ∙ ap (λ (m : ℕ). take m (labels_at (stage_words cs u) j)) (sym here) in
          let label : at_stage (labels_at (stage_words cs u) j) (suc k) ≡ get_or w j 0 = ap (λ (m : ℕ). get_or (labels_at (stage_words cs u) j) m 0) here ∙ label_at (stage_words cs u) k j (omega (arith, all)) in
          let lc = length_column h.breadth j (columns cs) word lw l in
          let lk = length_column h.breadth j (columns cs) marks lm l in
          subst (λ (x : ℕ). score_at d (get_or es j None) x ≤ column_harm h (stage_words cs u) h.breadth word marks j) label (column_score h law (suc k) (labels_at (stage_words cs u) j) (column h.breadth j word) (column h.breadth j marks) (get_or es j None) (stage h law cs laws fits word marks lw lm chosen few) row lc lk (subst (λ (ls : List ℕ). Estimates h (suc k) ls (column h.breadth j word) (column h.breadth j marks) (get_or es j None)) decided (est.1 j l))) in
          let sum = total_le (λ j. score_at d (get_or es j None) (get_or w j 0)) (column_harm h (stage_words cs u) h.breadth word marks) (columns cs) each in
          let scored = score_total d es w (columns cs) est.0 (of k (omega (arith, all))).0 in
          let harmed = harm_laid h (stage_words cs u) h.breadth word marks (columns cs) lw lm (row_length h law cs laws fits (stage_messages cs u) eu) in
          (own_word.1, omega (arith, ap (score d es) own_word.0, scored, sum, harmed, near.1, reach_here))

      -- so the choice is the codeword's own
      pub next_own : (w : List ℕ) → NextChoice h cs word marks chosen w → w ≡ get_or (stage_words cs u) (length chosen) []
      next_own w (es, est, (v, picked, is)) =
          is ∙ ap (code_at cs (suc (length chosen))).codeword (one_here h law cs laws fits word marks lw lm chosen few es est v own_message picked (own_chosen es est)) ∙ own_word.0

      pub never_none : NoChoice h cs word marks chosen → ⊥
      never_none none = none.2 own_message (own_chosen none.0 none.1)

  module _ (u : List ℕ) (near : Near (pile h cs) word marks u) (words : List (List ℕ)) (few : length words ≤ length cs) (choices : Choices h cs word marks words) where
    -- all that was chosen is the codeword's own
    begins_own : (k : ℕ) → k ≤ length words → take k words ≡ take k (stage_words cs u)
    begins_own zero l = refl
    begins_own (suc k) l =
        let front : length (take k words) ≡ k = length-take-le k words (omega arith) in
        let all = many h law cs laws fits (stage_messages cs u) (messages h law cs laws fits u near.0) in
        let before-own : take k words ≡ take (length (take k words)) (stage_words cs u) = begins_own k (omega arith) ∙ ap (λ (m : ℕ). take m (stage_words cs u)) (sym front) in
        let next = next_own (take k words) (omega (arith, front)) u near before-own (get_or words k []) (choices k (omega arith)) in
        let one_more : suc k ≡ k + 1 = omega arith in
        subst (λ (m : ℕ). take m words ≡ take m (stage_words cs u)) (sym one_more) (take_more_same words (stage_words cs u) k [] (omega arith) (omega (arith, all)) (begins_own k (omega arith)) (next ∙ ap (λ (m : ℕ). get_or (stage_words cs u) m []) front))

    pub own_begun : words ≡ take (length words) (stage_words cs u)
    own_begun = sym (take_all (length words) words (omega arith)) ∙ begins_own (length words) (omega arith)

    pub own_whole : length words ≡ length cs → words ≡ stage_words cs u
    own_whole whole =
        let all = many h law cs laws fits (stage_messages cs u) (messages h law cs laws fits u near.0) in
        own_begun ∙ take_all (length words) (stage_words cs u) (omega (arith, all))

    -- a stage without a choice, or a whole that is too far, shows that nothing is near
    pub none_chosen : length words < length cs → NoChoice h cs word marks words → ⊥
    none_chosen less none = never_none words less u near own_begun none

    pub none_whole : length words ≡ length cs → reach h cs ≤ harm word marks (laid h (columns cs) words) → ⊥
    none_whole whole far = omega (arith, ap (λ ws. harm word marks (laid h (columns cs) ws)) (own_whole whole), near.1)
