-- One stage after the other: what the estimates give the stage rule, and what its choice adds. Assumes nothing.
use Rattle.std.proofs.Common.{◌≡◌, ℕ, zero, suc, ◌+◌, ◌-◌, ◌^◌, ◌<◌, ◌≤◌, true, eqb, List, [], ◌∷◌, ◌++◌, length, get_or, take, set, Some, None, Err, Option, Result, sym, refl, ap, ◌∙◌, subst, ⊎_elim, arith, MatchResult}
use Rattle.std.specs.Option as options
use Rattle.std.specs.List.{AllByRecursion}
use Rattle.std.proofs.ByRecursion.{All-from_get_or}
use Rattle.std.proofs.lemmas.List.{get_or_append_left, get_or_at, get_or-set_other, get_or-set_same, length_push, take-append-le, take_at}
use Rattle.std.proofs.lemmas.Bool.{and_from, cases_eq, cases_lt, cond-true, eq-eqb, lt-ltb}
use Rattle.words.specs.declared.fault.Fault.{Fault}
use Rattle.chains.specs.declared.chain.Estimate.{Estimate}
use Rattle.chains.specs.Model.{ChainModel, LabelsFrom}
use Rattle.chains.specs.Promises.{Estimates}
use Rattle.codes.specs.Model.{CodeModel, Symbols}
use Rattle.stage_laws.specs.Promises.{Choice, Chose, choose_refusal, first_large, fits_column, length_refusal}
use Rattle.pile_laws.specs.Build.{columns, labels_at}
use Rattle.pile_laws.specs.Fit.{EachLawful, Fits}
use Rattle.pile_laws.specs.Stages.{Choices, ColumnEstimates, NextChoice, code_at, column, no_code}
use Rattle.pile_laws.proofs.Calls.{both_none}
use Rattle.pile_laws.proofs.Fitting.{code_after, fitting, fitting_at, lawful_at}
use Rattle.pile_laws.proofs.Outcomes.{chosen_encoded}
use Rattle.pile_laws.proofs.Rows.{WordsOf}

-- what holds of each place of a list that is filled one by one
pub filled_more : {X : Type 0} (P : ℕ → X → Type 0) (xs : List X) (j : ℕ) (y d : X) → j < length xs → ((i : ℕ) → i < j → P i (get_or xs i d)) → P j y → (i : ℕ) → i < j + 1 → P i (get_or (set xs j y) i d)
filled_more P xs j y d l below here i li = ⊎_elim same other (cases_eq i j)
  where
    same : i ≡ j → P i (get_or (set xs j y) i d)
    same e = subst (λ (k : ℕ). P k (get_or (set xs j y) k d)) (sym e) (subst (P j) (sym (get_or-set_same xs j y d l)) here)

    other : (i ≡ j → ⊥) → P i (get_or (set xs j y) i d)
    other ne = subst (P i) (sym (get_or-set_other xs j i y d ne)) (below i (omega arith))

-- the words that were chosen are words of their codes
pub chosen_words : (h : ChainModel) (cs : List CodeModel) → EachLawful cs → Fits h cs → (word marks : List ℕ) (words : List (List ℕ)) → length words ≤ length cs → Choices h cs word marks words → WordsOf cs (columns cs) words
chosen_words h cs laws fits word marks words few choices k l =
    let c = get_or cs k no_code in
    let e = chosen_encoded h cs word marks words choices k l in
    let s = (lawful_at k cs (omega arith) laws).symbols e.0 e.1 in
    subst (Symbols c.width (columns cs)) (sym e.2) (s.0 ∙ (fitting_at h (columns cs) 1 k cs (omega arith) (fitting h cs fits).0).2, s.1)

label_small : (width : ℕ → ℕ) (i k : ℕ) (us : List ℕ) → k < length us → LabelsFrom width i us → get_or us k 0 < 2 ^ width (i + k)
label_small width i k [] l f = absurd (omega arith)
label_small width i zero (x ∷ us) l f = let here : i ≡ i + 0 = omega arith in subst (λ (n : ℕ). x < 2 ^ width n) here f.0
label_small width i (suc k) (x ∷ us) l f =
    let on : suc i + k ≡ i + suc k = omega arith in
    subst (λ (n : ℕ). get_or us k 0 < 2 ^ width n) on (label_small width (suc i) k us (omega arith) f.1)

-- an estimate's label and harm fit its stage
estimate_fits : (h : ChainModel) (k symbols : ℕ) (labels cells marks : List ℕ) (e : Option Estimate) → k < h.stages → symbols ≡ 2 ^ h.width (suc k) → Estimates h (suc k) labels cells marks e → fits_column symbols (h.distance (suc k)) e ≡ true
estimate_fits h k symbols labels cells marks None l is est = refl
estimate_fits h k symbols labels cells marks (Some e) l is est =
    let row = est.1.0 in
    let here : 1 + k ≡ suc k = omega arith in
    let at : suc k - 1 ≡ k = omega arith in
    let small = label_small h.width 1 k est.0 (omega (arith, row.0)) row.1 in
    and_from _ _ (lt-ltb e.label symbols (omega (arith, est.2, ap (λ (n : ℕ). get_or est.0 n 0) at, small, ap (λ (n : ℕ). 2 ^ h.width n) here, is))) (lt-ltb e.harm (h.distance (suc k)) est.4)

none_large : (symbols d j : ℕ) (es : List (Option Estimate)) → AllByRecursion (λ e. fits_column symbols d e ≡ true) es → first_large symbols d j es ≡ None
none_large symbols d j [] a = refl
none_large symbols d j (e ∷ es) a = cond-true (fits_column symbols d e) _ _ a.0 ∙ none_large symbols d (suc j) es a.1

same_length : (n have : ℕ) → have ≡ n → length_refusal n have ≡ None
same_length n have e = cond-true (eqb have n) _ _ (eq-eqb have n e)

module _ (h : ChainModel) (cs : List CodeModel) (fits : Fits h cs) (word marks : List ℕ) (chosen : List (List ℕ)) (few : length chosen < length cs) (es : List (Option Estimate)) (est : ColumnEstimates h cs word marks chosen es) where
  at_stage_k : (length chosen < h.stages) × ((get_or cs (length chosen) no_code).width ≡ h.width (suc (length chosen))) × ((get_or cs (length chosen) no_code).len ≡ columns cs)
  at_stage_k =
      let f = fitting_at h (columns cs) 1 (length chosen) cs few (fitting h cs fits).0 in
      let here : 1 + length chosen ≡ suc (length chosen) = omega arith in
      (omega (arith, f.0), f.1 ∙ ap h.width here, f.2)

  -- the stage rule refuses nothing, and answers a choice or that there is none
  pub stage_answer : (c : CodeModel) → c ≡ get_or cs (length chosen) no_code → (d : ℕ) → d ≡ h.distance (suc (length chosen)) → (part part' : List ℕ) (r : Result (Option ℕ) Fault) → length part ≡ columns cs → Chose c d es part part' r → MatchResult r (Choice (code_at cs (suc (length chosen))) (h.distance (suc (length chosen))) es part part') (λ _. ⊥)
  stage_answer c is d distance part part' r lp chose =
      let f = at_stage_k in
      let i = suc (length chosen) in
      let long : c.len ≡ columns cs = ap (λ (x : CodeModel). x.len) is ∙ f.2 in
      let wide : 2 ^ c.width ≡ 2 ^ h.width i = ap (λ (x : CodeModel). 2 ^ x.width) is ∙ ap (λ (n : ℕ). 2 ^ n) f.1 in
      let each : AllByRecursion (λ e. fits_column (2 ^ c.width) (h.distance i) e ≡ true) es = All-from_get_or (λ e. fits_column (2 ^ c.width) (h.distance i) e ≡ true) es None (λ j l. estimate_fits h (length chosen) (2 ^ c.width) (labels_at chosen j) (column h.breadth j word) (column h.breadth j marks) (get_or es j None) f.0 wide (est.1 j (omega (arith, est.0)))) in
      let none : choose_refusal c (h.distance i) es part ≡ None = both_none (length_refusal c.len (length es)) _ (same_length c.len (length es) (est.0 ∙ sym long)) (both_none (length_refusal c.len (length part)) _ (same_length c.len (length part) (lp ∙ sym long)) (none_large (2 ^ c.width) (h.distance i) 0 es each)) in
      let there : Chose c (h.distance i) es part part' r = subst (λ (x : ℕ). Chose c x es part part' r) distance chose in
      let answer : MatchResult r (Choice c (h.distance i) es part part') (λ _. ⊥) = subst (λ (due : Option Fault). options.MatchOption due (MatchResult r (Choice c (h.distance i) es part part') (λ _. ⊥)) (λ g. (r ≡ Err g) × (part' ≡ part))) none there in
      subst (λ (x : CodeModel). MatchResult r (Choice x (h.distance i) es part part') (λ _. ⊥)) (is ∙ sym (code_after cs (length chosen))) answer

-- one choice more
pub choices_more : (h : ChainModel) (cs : List CodeModel) (word marks : List ℕ) (words : List (List ℕ)) (w : List ℕ) → Choices h cs word marks words → NextChoice h cs word marks words w → Choices h cs word marks (words ++ (w ∷ []))
choices_more h cs word marks words w choices next k l = ⊎_elim before here (cases_lt k (length words))
  where
    before : k < length words → NextChoice h cs word marks (take k (words ++ (w ∷ []))) (get_or (words ++ (w ∷ [])) k [])
    before lk =
        subst (λ ws. NextChoice h cs word marks ws (get_or (words ++ (w ∷ [])) k [])) (sym (take-append-le k words (w ∷ []) (omega arith))) (subst (NextChoice h cs word marks (take k words)) (sym (get_or_append_left words (w ∷ []) [] k lk)) (choices k lk))

    here : length words ≤ k → NextChoice h cs word marks (take k (words ++ (w ∷ []))) (get_or (words ++ (w ∷ [])) k [])
    here past =
        let last : length words ≡ k = omega (arith, length_push words w) in
        subst (λ ws. NextChoice h cs word marks ws (get_or (words ++ (w ∷ [])) k [])) (sym (take_at words (w ∷ []) k last)) (subst (NextChoice h cs word marks words) (sym (get_or_at words w [] [] k last)) next)
