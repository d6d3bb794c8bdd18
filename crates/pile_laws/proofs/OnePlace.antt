-- The stages' choices are the only ones, so that at most one stage is the first without a choice. Assumes nothing.
use Rattle.std.proofs.Common.{◌≡◌, ℕ, zero, suc, ◌+◌, ◌*◌, ◌<◌, ◌≤◌, ◌⊎◌, List, [], length, get_or, take, Some, None, Option, sym, refl, ap, ◌∙◌, subst, inl, inr, ⊎_elim, arith}
use Rattle.std.specs.List.{AllByRecursion}
use Rattle.std.proofs.ByRecursion.{All-from_get_or}
use Rattle.std.proofs.lemmas.List.{ext_get_or, length-take-le, take_all, take_more_same}
use Rattle.std.proofs.lemmas.Bool.{cases_lt}
use Rattle.words.specs.Harm.{harm}
use Rattle.chains.specs.declared.chain.Estimate.{Estimate}
use Rattle.chains.specs.Model.{ChainModel, LawfulChain, Stage}
use Rattle.chains.specs.Promises.{Estimates}
use Rattle.chains.specs.FromLaw.{one_estimate}
use Rattle.codes.specs.Model.{CodeModel, Lawful}
use Rattle.stage_laws.specs.Rule.{Chosen, OneChoice, Within}
use Rattle.stage_laws.proofs.OneChoice.{one_choice}
use Rattle.pile_laws.specs.Build.{columns, labels_at, laid, reach}
use Rattle.pile_laws.specs.Fit.{EachLawful, Fits}
use Rattle.pile_laws.specs.Pile.{GivesUp}
use Rattle.pile_laws.specs.Stages.{Choices, ColumnEstimates, NextChoice, NoChoice, code_at, column}
use Rattle.pile_laws.proofs.Columns.{length_column}
use Rattle.pile_laws.proofs.Fitting.{Fitting, code_after, fitting, fitting_at, lawful_at}

-- an estimate's harm is below the distance
estimate_within : (h : ChainModel) (i : ℕ) (labels cells marks : List ℕ) (e : Option Estimate) → Estimates h i labels cells marks e → Within (h.distance i) e
estimate_within h i labels cells marks None est = tt
estimate_within h i labels cells marks (Some e) est = est.4

module _ (h : ChainModel) (law : LawfulChain h) (cs : List CodeModel) (laws : EachLawful cs) (fits : Fits h cs) (word marks : List ℕ) (lw : length word ≡ h.breadth * columns cs) (lm : length marks ≡ h.breadth * columns cs) where
  fit : Fitting h (columns cs) 1 cs
  fit = (fitting h cs fits).0

  module _ (chosen : List (List ℕ)) (few : length chosen < length cs) where
    lawful : Lawful (code_at cs (suc (length chosen)))
    lawful = subst (λ (c : CodeModel). Lawful c) (sym (code_after cs (length chosen))) (lawful_at (length chosen) cs few laws)

    long : (code_at cs (suc (length chosen))).len ≡ columns cs
    long = ap (λ (c : CodeModel). c.len) (code_after cs (length chosen)) ∙ (fitting_at h (columns cs) 1 (length chosen) cs few fit).2

    pub stage : Stage h (suc (length chosen))
    stage = (omega arith, omega (arith, (fitting_at h (columns cs) 1 (length chosen) cs few fit).0))

    estimates_within : (es : List (Option Estimate)) → ColumnEstimates h cs word marks chosen es → AllByRecursion (Within (h.distance (suc (length chosen)))) es
    estimates_within es est = All-from_get_or (Within (h.distance (suc (length chosen)))) es None (λ j l. estimate_within h _ _ (column h.breadth j word) (column h.breadth j marks) (get_or es j None) (est.1 j (omega (arith, est.0))))

    pub one_here : (es : List (Option Estimate)) → ColumnEstimates h cs word marks chosen es → OneChoice (code_at cs (suc (length chosen))) (h.distance (suc (length chosen))) es
    one_here es est = one_choice (code_at cs (suc (length chosen))) lawful (h.distance (suc (length chosen))) es (est.0 ∙ sym long) (estimates_within es est)

    -- the columns have one row of estimates
    one_row : (es fs : List (Option Estimate)) → ColumnEstimates h cs word marks chosen es → ColumnEstimates h cs word marks chosen fs → es ≡ fs
    one_row es fs ee ef =
        ext_get_or None es fs (ee.0 ∙ sym ef.0)
        (λ j l.
        let within : j < columns cs = omega (arith, ee.0) in
        one_estimate h law (suc (length chosen)) (labels_at chosen j) (column h.breadth j word) (column h.breadth j marks) (get_or es j None) (get_or fs j None) stage (length_column h.breadth j (columns cs) word lw within) (length_column h.breadth j (columns cs) marks lm within) (ee.1 j within) (ef.1 j within))

    -- so they have one choice at most
    next_one : (w v : List ℕ) → NextChoice h cs word marks chosen w → NextChoice h cs word marks chosen v → w ≡ v
    next_one w v (es, ee, (u, picked, is)) (fs, ef, (x, picked', is')) =
        let same = one_row fs es ef ee in
        is ∙ ap (code_at cs (suc (length chosen))).codeword (one_here es ee u x picked (subst (λ (gs : List (Option Estimate)). Chosen (code_at cs (suc (length chosen))) (h.distance (suc (length chosen))) gs x) same picked')) ∙ sym is'

    next_or_none : (w : List ℕ) → NextChoice h cs word marks chosen w → NoChoice h cs word marks chosen → ⊥
    next_or_none w (es, ee, (u, picked, is)) (fs, ef, none) =
        none u (subst (λ (gs : List (Option Estimate)). Chosen (code_at cs (suc (length chosen))) (h.distance (suc (length chosen))) gs u) (one_row es fs ee ef) picked)

  -- rows of choices agree as far as both go
  module _ (ws vs : List (List ℕ)) (fw : length ws ≤ length cs) (cw : Choices h cs word marks ws) (cv : Choices h cs word marks vs) where
    agree : (k : ℕ) → k ≤ length ws → k ≤ length vs → take k ws ≡ take k vs
    agree zero lw lv = refl
    agree (suc k) lw lv =
        let before = agree k (omega arith) (omega arith) in
        let front : length (take k ws) ≡ k = length-take-le k ws (omega arith) in
        let here = next_one (take k ws) (omega (arith, front)) (get_or ws k []) (get_or vs k []) (cw k (omega arith)) (subst (λ (us : List (List ℕ)). NextChoice h cs word marks us (get_or vs k [])) (sym before) (cv k (omega arith))) in
        let one_more : suc k ≡ k + 1 = omega arith in
        subst (λ (m : ℕ). take m ws ≡ take m vs) (sym one_more) (take_more_same ws vs k [] (omega arith) (omega arith) before here)

    -- and none goes on where another has no choice
    no_longer : length ws < length vs → length ws < length cs → NoChoice h cs word marks ws → ⊥
    no_longer shorter few none =
        let k = length ws in
        let same : take k vs ≡ ws = sym (agree k (omega arith) (omega arith)) ∙ take_all k ws (omega arith) in
        next_or_none ws few (get_or vs k []) (subst (λ (us : List (List ℕ)). NextChoice h cs word marks us (get_or vs k [])) same (cv k shorter)) none

  abbrev Ends : List (List ℕ) → ℕ → Type 0
  Ends ws p =
      ((p ≡ suc (length ws)) × (length ws < length cs) × NoChoice h cs word marks ws)
      ⊎ ((p ≡ 0) × (length ws ≡ length cs) × (reach h cs ≤ harm word marks (laid h (columns cs) ws)))

  pub one_place : (p q : ℕ) → GivesUp h cs word marks p → GivesUp h cs word marks q → p ≡ q
  one_place p q (ws, cw, end) (vs, cv, end') = by end end'
    where
      by : Ends ws p → Ends vs q → p ≡ q
      by (inl (is, few, none)) (inl (is', few', none')) =
          ⊎_elim (λ less. absurd (no_longer ws vs (omega arith) cw cv less few none))
          (λ more. ⊎_elim (λ less. absurd (no_longer vs ws (omega arith) cv cw less few' none')) (λ same. omega (arith, is, is', more, same)) (cases_lt (length vs) (length ws)))
          (cases_lt (length ws) (length vs))
      by (inl (is, few, none)) (inr (is', whole, far)) = absurd (no_longer ws vs (omega arith) cw cv (omega (arith, few, whole)) few none)
      by (inr (is, whole, far)) (inl (is', few, none)) = absurd (no_longer vs ws (omega arith) cv cw (omega (arith, few, whole)) few none)
      by (inr (is, whole, far)) (inr (is', whole', far')) = is ∙ sym is'
