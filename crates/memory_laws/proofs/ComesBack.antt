-- While the harm is below the reach, reads give back what was written, and patrols and writes are accepted. Assumes nothing.
use Rattle.std.proofs.Common.{◌≡◌, ℕ, ◌<◌, true, List, [], ◌∷◌, length, is_ok, None, Ok, Err, Result, refl, ap, ◌∙◌, arith}
use Rattle.std.specs.Result as results
use Rattle.std.specs.List.{AllByRecursion}
use Rattle.std.proofs.lemmas.Option.{MatchOption-at_none}
use Rattle.words.specs.declared.fault.Fault.{Fault}
use Rattle.words.specs.declared.fault.Layer.TheVariants.{Memory}
use Rattle.words.specs.Buffers.{either, refusal, written_to}
use Rattle.words.proofs.Passes.{none_from_fits}
use Rattle.codes.specs.Model.{CodeModel, Lawful, Near}
use Rattle.media_laws.specs.Model.{MediumModel, LawfulMedium, stored, Unchanged, Changed}
use Rattle.memory_laws.specs.Calls.{Joins, Recalled, Patrolled, Restores, Unrestored, word_of, marks_of, page_harm, payload_refusal, recording}
use Rattle.memory_laws.specs.Lives.{ComesBack}
use Rattle.memory_laws.specs.Payload.{carrying, bytes_of, page_bytes}
use Rattle.memory_laws.proofs.Accepts.{page_passes}
use Rattle.memory_laws.proofs.Exact.{not_both}
use Rattle.memory_laws.proofs.Lives.{life_follows, last_payload, restored, unworn_match, joins_on}
use Rattle.memory_laws.proofs.Outcomes.{PagePayload}
use Rattle.memory_laws.proofs.Payloads.{carrying_clear, payload_back}
use Rattle.memory_laws.proofs.Steps.{carrying_message}

payload_passes : (m : MediumModel) (c : CodeModel) (p : ℕ) (payload : List ℕ) → p < m.pages → PagePayload c payload → payload_refusal m c p payload ≡ None
payload_passes m c p payload l pp =
    ap (λ due. either due (refusal Memory (written_to (page_bytes c.message_len) payload ∷ []))) (page_passes m p l)
    ∙ none_from_fits Memory (written_to (page_bytes c.message_len) payload ∷ []) (pp, tt)

module _ (c : CodeModel) (lc : Lawful c) (m : MediumModel) (h : LawfulMedium m) (j : Joins m c) (p : ℕ) (within : p < m.pages) (payload : List ℕ) (pp : PagePayload c payload) (near : page_harm m p (recording c payload) < c.distance) where
  only : (u : List ℕ) → Near c (word_of m p) (marks_of m p) u → u ≡ carrying c.message_len payload
  only u nu = restored c lc p m h j within payload pp near u nu

  -- such a page is never refused
  never : (f : Fault) → Unrestored m c p f → ⊥
  never f o = not_both c lc m h j p within (carrying c.message_len payload) ((carrying_message c payload j.bits pp.0, near), carrying_clear c.message_len payload pp.0) f o

  pub read_gives : (m' : MediumModel) (buffer buffer' : List ℕ) (r : Result ℕ Fault) → length buffer ≡ page_bytes c.message_len → AllByRecursion (λ b. b < 256) buffer → Recalled m m' c p buffer buffer' r → (r ≡ Ok (page_harm m p (recording c payload))) × (buffer' ≡ payload)
  read_gives m' buffer buffer' r long bytes w = by r refl (MatchOption-at_none _ _ (payload_passes m c p buffer within (long, bytes)) w.1)
    where
      by : (r' : Result ℕ Fault) → r ≡ r' → results.MatchResult r' (λ h'. (u : List ℕ) × Restores m c p u × (buffer' ≡ bytes_of (page_bytes c.message_len) u) × (h' ≡ page_harm m p (c.codeword u))) (λ f. Unrestored m c p f × (buffer' ≡ buffer)) → (r ≡ Ok (page_harm m p (recording c payload))) × (buffer' ≡ payload)
      by (Ok h') e o =
          let is = only o.0 o.1.0 in
          (e ∙ ap Ok (o.3 ∙ ap (λ u. page_harm m p (c.codeword u)) is), o.2 ∙ ap (bytes_of (page_bytes c.message_len)) is ∙ payload_back c.message_len payload pp.1 pp.0)
      by (Err f) e o = absurd (never f o.0)

  pub patrol_goes : (m' : MediumModel) (r : Result ℕ Fault) → Patrolled m m' c p r → is_ok r ≡ true
  patrol_goes m' r w = by r refl (MatchOption-at_none _ _ (page_passes m p within) w)
    where
      by : (r' : Result ℕ Fault) → r ≡ r' → results.MatchResult r' (λ h'. (u : List ℕ) × Restores m c p u × Changed m m' p (stored (m.page p) (c.codeword u)) × (h' ≡ page_harm m p (c.codeword u))) (λ f. Unrestored m c p f × Unchanged m m') → is_ok r ≡ true
      by (Ok h') e o = ap is_ok e
      by (Err f) e o = absurd (never f o.0)

pub comes_back : (c : CodeModel) → ComesBack c
comes_back c lc m m' h j life p within =
    let f = life_follows c lc h j life in
    let l : p < m'.pages = omega (arith, f.pages) in
    let j' = joins_on c lc m m' f j in (
      (λ payload lw pn.
          let pp = last_payload c lc p payload life lw in
          record {
            matches = λ i li unworn. unworn_match c lc p h j within payload i (omega (arith, f.breadth)) life lw pn unworn;
            reads_back = λ near. read_gives c lc m' f.lawful j' p l payload pp near;
            patrol_accepted = λ near. patrol_goes c lc m' f.lawful j' p l payload pp near;
          }),
      (λ m'' payload r long bytes w. ap is_ok (MatchOption-at_none _ _ (payload_passes m' c p payload l (long, bytes)) w).0),
    )
