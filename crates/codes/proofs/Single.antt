-- The calls of a lawful code leave one result each. Assumes nothing.
use Rattle.std.proofs.Common.{◌≡◌, ℕ, ◌^◌, ◌<◌, List, replicate, Some, None, Ok, Err, Option, Result, MatchOption, MatchResult, sym, ap, refl, ◌∙◌, subst, arith}
use Rattle.std.specs.Prelude.{IsOk, ◌↔◌}
use Rattle.std.proofs.lemmas.List.{length-replicate}
use Rattle.std.proofs.lemmas.Option.{MatchOption-at_none}
use Rattle.words.specs.declared.fault.Fault.{Fault}
use Rattle.words.specs.declared.fault.Kind.TheVariants.{NoCodeword}
use Rattle.words.specs.declared.fault.Layer.TheVariants.{Code}
use Rattle.words.specs.Buffers.{refusal}
use Rattle.words.specs.Faults.{fault}
use Rattle.words.specs.Harm.{harm}
use Rattle.words.proofs.Passes.{none_from_fits}
use Rattle.codes.specs.Model.{Beside, CodeModel, Lawful, Message, Near}
use Rattle.codes.specs.Promises.{AnsweredExactly, Corrected, OneCorrection, OneRecovery}
use Rattle.codes.specs.Repeats.{all_replicate}
use Rattle.codes.specs.Simple.{no_harm}
use Rattle.codes.proofs.Nearness.{only_one_near}
use Rattle.codes.proofs.Working.{correct_buffers, damage_fits, message_of_buffers}

-- a refusal that is due is the one answer, and what it leaves is one
pub one_unless : {X Y : Type 0} (due : Option Fault) (old y y' : Y) (r r' : Result X Fault) (Worked Worked' : Type 0) → (due ≡ None → Worked → Worked' → (y' ≡ y) × (r' ≡ r)) → MatchOption due Worked (λ f. (r ≡ Err f) × (y ≡ old)) → MatchOption due Worked' (λ f. (r' ≡ Err f) × (y' ≡ old)) → (y' ≡ y) × (r' ≡ r)
one_unless None old y y' r r' Worked Worked' one a b = one refl a b
one_unless (Some f) old y y' r r' Worked Worked' one a b = (b.1 ∙ sym a.1, b.0 ∙ sym a.0)

module _ (c : CodeModel) (lawful : Lawful c) where
  -- different messages have different codewords
  pub one_message : (u v : List ℕ) → Message c u → Message c v → c.codeword u ≡ c.codeword v → u ≡ v
  one_message u v mu mv same =
      let word = c.codeword u in
      let marks = replicate c.len 0 in
      let clean : harm word marks word ≡ 0 = no_harm word marks (all_replicate (λ m. m ≡ 0) c.len 0 refl) in
      let near : harm word marks word < c.distance = omega (arith, clean, lawful.some_distance) in
      only_one_near c lawful word marks (lawful.symbols u mu).0 (length-replicate c.len 0) u v (mu, near) (mv, subst (λ (w : List ℕ). harm word marks w < c.distance) same near)

  module _ (word marks : List ℕ) where
    abbrev Right : List ℕ → ℕ → Type 0
    Right w h = (u : List ℕ) × Near c word marks u × (w ≡ c.codeword u) × (h ≡ harm word marks (c.codeword u))

    abbrev Wrong : List ℕ → Fault → Type 0
    Wrong w f =
        (place : ℕ) × c.Blames word marks place × (f ≡ fault NoCodeword Code place) × (w ≡ word) × ((u : List ℕ) → Near c word marks u → ⊥)

    one_corrected : Beside c word marks → (w w' : List ℕ) (r r' : Result ℕ Fault) → MatchResult r (Right w) (Wrong w) → MatchResult r' (Right w') (Wrong w') → (w' ≡ w) × (r' ≡ r)
    one_corrected beside w w' (Ok h) (Ok h') (u, near, is, value) (u', near', is', value') =
        let same : u' ≡ u = only_one_near c lawful word marks beside.0.0 beside.1.0 u' u near' near in
        (is' ∙ ap c.codeword same ∙ sym is, ap Ok (value' ∙ ap (λ v. harm word marks (c.codeword v)) same ∙ sym value))
    one_corrected beside w w' (Ok h) (Err f) (u, near, is, value) (place, blamed, named, kept, far) = absurd (far u near)
    one_corrected beside w w' (Err f) (Ok h) (place, blamed, named, kept, far) (u, near, is, value) = absurd (far u near)
    one_corrected beside w w' (Err f) (Err f') (place, blamed, named, kept, far) (place', blamed', named', kept', far') =
        (kept' ∙ sym kept, ap Err (named' ∙ ap (fault NoCodeword Code) (lawful.one_place word marks beside place' place blamed' blamed) ∙ sym named))

    pub one_correction : OneCorrection c word marks
    one_correction w w' r r' a b =
        one_unless (refusal Code (correct_buffers c (2 ^ c.width) word marks)) word w w' r r' _ _
        (λ none. one_corrected (damage_fits c word marks none) w w' r r') a b

    pub answered_exactly : (w : List ℕ) (r : Result ℕ Fault) → Corrected c word marks w r → AnsweredExactly c word marks r
    answered_exactly w r a beside =
        by r (MatchOption-at_none _ _ (none_from_fits Code (correct_buffers c (2 ^ c.width) word marks) (beside.0, (beside.1, tt))) a)
      where
        by : (r' : Result ℕ Fault) → MatchResult r' (Right w) (Wrong w) → IsOk r' ↔ ((u : List ℕ) × Near c word marks u)
        by (Ok h) (u, near, is, value) = ((λ _. (u, near)), (λ _. refl))
        by (Err f) (place, blamed, named, kept, far) = ((λ (ok : IsOk {T = ℕ} (Err f)). cc), (λ near. absurd (far near.0 near.1)))

  module _ (word message : List ℕ) where
    abbrev Recovers : List ℕ → Type 0
    Recovers u = Message c u × (c.codeword u ≡ word)

    abbrev Foreign : List ℕ → Fault → Type 0
    Foreign u f =
        (f ≡ fault NoCodeword Code 0) × (u ≡ message) × ((v : List ℕ) → Message c v → c.codeword v ≡ word → ⊥)

    one_recovered : (u u' : List ℕ) (r r' : Result (Unit {0}) Fault) → MatchResult r (λ _. Recovers u) (Foreign u) → MatchResult r' (λ _. Recovers u') (Foreign u') → (u' ≡ u) × (r' ≡ r)
    one_recovered u u' (Ok t) (Ok t') (is, spells) (is', spells') =
        (one_message u' u is' is (spells' ∙ sym spells), refl)
    one_recovered u u' (Ok t) (Err f) (is, spells) (named, kept, none) = absurd (none u is spells)
    one_recovered u u' (Err f) (Ok t) (named, kept, none) (is, spells) = absurd (none u' is spells)
    one_recovered u u' (Err f) (Err f') (named, kept, none) (named', kept', none') =
        (kept' ∙ sym kept, ap Err (named' ∙ sym named))

    pub one_recovery : OneRecovery c word message
    one_recovery u u' r r' a b =
        one_unless (refusal Code (message_of_buffers c (2 ^ c.width) message word)) message u u' r r' _ _
        (λ none. one_recovered u u' r r') a b
