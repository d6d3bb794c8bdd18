-- What each trial tells, and what the trials tell together. Assumes nothing.
use Rattle.std.proofs.Common.{◌≡◌, ℕ, ◌*◌, ◌^◌, ◌<◌, ◌≤◌, Bool, true, false, cond, ltb, List, [], ◌∷◌, map, Some, None, Ok, Err, Option, Result, refl, sym, ap, ◌∙◌, subst₂, ⊎_elim, arith}
use Rattle.std.specs.List.{AllByRecursion}
use Rattle.std.proofs.ByRecursion.{All-map}
use Rattle.std.proofs.lemmas.List.{length-map}
use Rattle.std.proofs.lemmas.Option.{MatchOption-at_none}
use Rattle.std.proofs.lemmas.Bool.{ltb-true, ltb-false, cases_lt}
use Rattle.words.specs.declared.fault.Fault.{Fault}
use Rattle.words.specs.declared.fault.Layer.TheVariants.{Code}
use Rattle.words.specs.Buffers.{refusal}
use Rattle.words.proofs.Passes.{none_from_fits}
use Rattle.chains.specs.declared.chain.Estimate.{Estimate}
use Rattle.codes.specs.Model.{CodeModel, Lawful, Near}
use Rattle.codes.specs.Promises.{Corrected, symbols_of, marks_of}
use Rattle.codes.proofs.Nearness.{only_one_near}
use Rattle.stage_laws.specs.Rule.{score, Chosen}
use Rattle.stage_laws.specs.Trials.{trial_symbol, trial_mark, trial_harm, Fitting, Tried}
use Rattle.stage_laws.proofs.Forney.{forney, far_in_all}

mark_small : (t : ℕ) (e : Option Estimate) → trial_mark t e < 2
mark_small t None = omega arith
mark_small t (Some e) = by (ltb e.harm t)
  where
    by : (b : Bool) → cond b 0 1 < 2
    by true = omega arith
    by false = omega arith

marks_small : (t : ℕ) (es : List (Option Estimate)) → AllByRecursion (λ m. m < 2) (map (trial_mark t) es)
marks_small t [] = tt
marks_small t (e ∷ es) = (mark_small t e, marks_small t es)

module _ (c : CodeModel) (lawful : Lawful c) (d : ℕ) (es : List (Option Estimate)) (fits : Fitting c d es) where
  -- the code takes what it is handed
  handed : (t : ℕ) → refusal Code (symbols_of c c.len (map trial_symbol es) ∷ marks_of c.len (map (trial_mark t) es) ∷ []) ≡ None
  handed t =
      none_from_fits Code (symbols_of c c.len (map trial_symbol es) ∷ marks_of c.len (map (trial_mark t) es) ∷ []) ((length-map es trial_symbol ∙ fits.0, All-map (λ x. x < 2 ^ c.width) trial_symbol es fits.1), ((length-map es (trial_mark t) ∙ fits.0, marks_small t es), tt))

  -- the code is handed a trial at t, and leaves a word
  module _ (t : ℕ) (given marks word : List ℕ) (symbols-are : given ≡ map trial_symbol es) (marks-are : marks ≡ map (trial_mark t) es) where
    told : (r : Result ℕ Fault) → Corrected c given marks word r → Corrected c (map trial_symbol es) (map (trial_mark t) es) word r
    told r e = subst₂ (λ (w k : List ℕ). Corrected c w k word r) symbols-are marks-are e

    not_near : (u : List ℕ) → Chosen c d es u → (Near c (map trial_symbol es) (map (trial_mark t) es) u → ⊥) → c.distance ≤ trial_harm t es (c.codeword u)
    not_near u chosen none =
        ⊎_elim (λ near. absurd (none (chosen.0, near))) (λ far. far) (cases_lt (trial_harm t es (c.codeword u)) c.distance)

    -- the code finds nothing, so a choice is not near
    pub tried_nothing : (f : Fault) → Corrected c given marks word (Err f) → Tried c d es t word None
    tried_nothing f e u chosen = not_near u chosen ((MatchOption-at_none _ _ (handed t) (told (Err f) e)).4 u)

    module _ (h s D : ℕ) (e : Corrected c given marks word (Ok h)) (scored : s ≡ score d es word) (apart : D ≡ c.distance) where
      -- the code's candidate is the choice
      pub tried_choice : true ≡ ltb s (d * D) → Tried c d es t word (Some s)
      tried_choice below =
          let found = MatchOption-at_none _ _ (handed t) (told (Ok h) e) in
          let is = scored ∙ ap (score d es) found.2 in
          (found.0, (found.1.0, subst₂ (λ (x y : ℕ). x < d * y) is apart (ltb-true _ _ (sym below))), found.2, is)

      -- the code's candidate is not, and no other codeword is near
      pub tried_other : false ≡ ltb s (d * D) → Tried c d es t word None
      tried_other above u chosen =
          let found = MatchOption-at_none _ _ (handed t) (told (Ok h) e) in
          let alone = only_one_near c lawful (map trial_symbol es) (map (trial_mark t) es) (length-map es trial_symbol ∙ fits.0) (length-map es (trial_mark t) ∙ fits.0) u found.0 in
          let high = subst₂ (λ (x y : ℕ). d * y ≤ x) (scored ∙ ap (score d es) found.2) apart (ltb-false _ _ (sym above)) in
          not_near u chosen (λ near. omega (arith, chosen.1, high, ap (λ v. score d es (c.codeword v)) (alone near found.1)))

      -- so the trial gives the code's candidate where its score decides, and nothing else
      pub tried_candidate : Tried c d es t word (cond (ltb s (d * D)) (Some s) None)
      tried_candidate = by (ltb s (d * D)) refl
        where
          by : (b : Bool) → b ≡ ltb s (d * D) → Tried c d es t word (cond b (Some s) None)
          by true is = tried_choice is
          by false is = tried_other is

  -- a choice that is too far for every trial is none
  pub no_choice : ((u : List ℕ) → Chosen c d es u → (t : ℕ) → 1 ≤ t → t ≤ d → c.distance ≤ trial_harm t es (c.codeword u)) → (u : List ℕ) → Chosen c d es u → ⊥
  no_choice far u chosen =
      omega (arith, chosen.1, forney d es (c.codeword u) fits.2, far_in_all d c.distance es (c.codeword u) (far u chosen))
