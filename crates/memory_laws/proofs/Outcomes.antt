-- Each call of a memory is accepted and does its work, or is refused and changes nothing. Assumes nothing.
use Rattle.std.proofs.Common.{◌≡◌, ℕ, ◌<◌, ◌≤◌, true, false, ◌⊎◌, List, [], ◌∷◌, length, set, is_ok, Some, None, Ok, Err, Option, Result, refl, ap, inl, inr}
use Rattle.std.specs.Option as options
use Rattle.std.specs.Result as results
use Rattle.std.specs.List.{AllByRecursion}
use Rattle.words.specs.declared.fault.Fault.{Fault}
use Rattle.words.specs.declared.fault.Layer.TheVariants.{Memory}
use Rattle.words.specs.Buffers.{either, written_to}
use Rattle.words.specs.Faults.{on_page}
use Rattle.words.proofs.Passes.{fits_from_none, none_left, none_right}
use Rattle.codes.specs.Model.{CodeModel}
use Rattle.media_laws.specs.Model.{MediumModel, stored, Unchanged, Changed}
use Rattle.media.specs.Promises.{page_refusal, cell_refusal}
use Rattle.media.proofs.Working.{page_passed, cell_passed}
use Rattle.memory_laws.specs.Calls.{Written, Patrolled, WornPage, Restores, Unrestored, blanks, page_harm, payload_refusal, recording}
use Rattle.memory_laws.specs.Payload.{page_bytes}

pub page_there : (m : MediumModel) (p : ℕ) → page_refusal m p ≡ None → p < m.pages
page_there m p e = page_passed p m.pages _ e

-- the payload of an accepted write
abbrev pub PagePayload : CodeModel → List ℕ → Type 0
PagePayload c payload = (length payload ≡ page_bytes c.message_len) × AllByRecursion (λ b. b < 256) payload

pub payload_passed : (m : MediumModel) (c : CodeModel) (p : ℕ) (payload : List ℕ) → payload_refusal m c p payload ≡ None → (p < m.pages) × PagePayload c payload
payload_passed m c p payload e =
    let fit = fits_from_none Memory (written_to (page_bytes c.message_len) payload ∷ []) (none_right (page_refusal m p) _ e) in
    (page_there m p (none_left (page_refusal m p) _ e), fit.0)

-- accepted, with what then holds, or refused
abbrev pub Outcome : {X : Type 0} → Result X Fault → Type 0 → Type 0 → Type 0
Outcome r Accepted Refused = ((is_ok r ≡ true) × Accepted) ⊎ ((is_ok r ≡ false) × Refused)

module _ (m m' : MediumModel) where
  abbrev pub WriteAccepted : CodeModel → ℕ → List ℕ → Type 0
  WriteAccepted c p payload = (p < m.pages) × (PagePayload c payload × Changed m m' p (stored (m.page p) (recording c payload)))

  pub write_outcome : (c : CodeModel) (p : ℕ) (payload : List ℕ) (r : Result ℕ Fault) → Written m m' c p payload r → Outcome r (WriteAccepted c p payload) (Unchanged m m')
  write_outcome c p payload r w = by (payload_refusal m c p payload) refl w
    where
      by : (due : Option Fault) → payload_refusal m c p payload ≡ due → options.MatchOption due ((r ≡ Ok (blanks (m'.page p))) × Changed m m' p (stored (m.page p) (recording c payload))) (λ f. (r ≡ Err (on_page f p)) × Unchanged m m') → Outcome r (WriteAccepted c p payload) (Unchanged m m')
      by None e h =
          let passed = payload_passed m c p payload e in
          inl (ap is_ok h.0, (passed.0, (passed.1, h.1)))
      by (Some f) e h = inr (ap is_ok h.0, h.1)

  abbrev pub PatrolAccepted : CodeModel → ℕ → Type 0
  PatrolAccepted c p = (p < m.pages) × ((u : List ℕ) × Restores m c p u × Changed m m' p (stored (m.page p) (c.codeword u)))

  pub patrol_outcome : (c : CodeModel) (p : ℕ) (r : Result ℕ Fault) → Patrolled m m' c p r → Outcome r (PatrolAccepted c p) (Unchanged m m')
  patrol_outcome c p r w = by (page_refusal m p) refl r refl w
    where
      by : (due : Option Fault) → page_refusal m p ≡ due → (r' : Result ℕ Fault) → r ≡ r' → options.MatchOption due (results.MatchResult r' (λ h. (u : List ℕ) × Restores m c p u × Changed m m' p (stored (m.page p) (c.codeword u)) × (h ≡ page_harm m p (c.codeword u))) (λ f. Unrestored m c p f × Unchanged m m')) (λ f. (r ≡ Err (on_page f p)) × Unchanged m m') → Outcome r (PatrolAccepted c p) (Unchanged m m')
      by None e (Ok h) er w = inl (ap is_ok er, (page_there m p e, (w.0, w.1, w.2)))
      by None e (Err f) er w = inr (ap is_ok er, w.1)
      by (Some f) e r' er w = inr (ap is_ok w.0, w.1)

  abbrev pub WearAccepted : ℕ → ℕ → ℕ → Type 0
  WearAccepted p i s = (p < m.pages) × ((s ≤ 2) × Changed m m' p (set (m.page p) i s))

  pub wear_outcome : (p i s : ℕ) (r : Result (Unit {0}) Fault) → WornPage m m' p i s r → Outcome r (WearAccepted p i s) (Unchanged m m')
  wear_outcome p i s r w = by (either (page_refusal m p) (cell_refusal m i s)) refl w
    where
      by : (due : Option Fault) → either (page_refusal m p) (cell_refusal m i s) ≡ due → options.MatchOption due ((r ≡ Ok tt) × Changed m m' p (set (m.page p) i s)) (λ f. (r ≡ Err (on_page f p)) × Unchanged m m') → Outcome r (WearAccepted p i s) (Unchanged m m')
      by None e h =
          let cell = cell_passed i m.breadth s _ (none_right (page_refusal m p) _ e) in
          inl (ap is_ok h.0, (page_there m p (none_left (page_refusal m p) _ e), (cell.1, h.1)))
      by (Some f) e h = inr (ap is_ok h.0, h.1)
