-- Lives of a memory: any list of writes, reads, patrols and wear, accepted or refused. Assumes nothing.
use Rattle.std.specs.Prelude.{◌≡◌, ℕ, ◌<◌, true, ◌&&◌, List, length, is_ok, None, Ok, MatchBool, Result, ◌==◌, ◌≢◌, slice_index, slice_index_or}
use Rattle.std.specs.Result as results
use Rattle.std.specs.List.{AllByRecursion}
use Rattle.words.specs.declared.fault.Fault.{Fault}
use Rattle.codes.specs.Model.{CodeModel, Lawful, Near}
use Rattle.media_laws.specs.Model.{MediumModel, LawfulMedium, stored, Changed}
use Rattle.media.specs.Promises.{page_refusal}
use Rattle.memory_laws.specs.Calls.{Joins, Written, Recalled, Patrolled, Restores, WornPage, word_of, marks_of, page_harm, payload_refusal, recording}
use Rattle.memory_laws.specs.Payload.{bytes_of, page_bytes}

-- one call with its answer, between two states of the medium
pub data Step (c : CodeModel) (m m' : MediumModel) : Type 0 where
  writes : (p : ℕ) (payload : List ℕ) (r : Result ℕ Fault) → Written m m' c p payload r → Step c m m'
  reads : (p : ℕ) (payload payload' : List ℕ) (r : Result ℕ Fault) → Recalled m m' c p payload payload' r → Step c m m'
  patrols : (p : ℕ) (r : Result ℕ Fault) → Patrolled m m' c p r → Step c m m'
  wears : (p i s : ℕ) (r : Result (Unit {0}) Fault) → WornPage m m' p i s r → Step c m m'

-- a life from one state of the medium to another
pub data Life (c : CodeModel) (m : MediumModel) : MediumModel → Type 0 where
  begins : Life c m m
  goes_on : {m' m'' : MediumModel} → Life c m m' → Step c m' m'' → Life c m m''

-- a page is corrected exactly where some message restores it: to that one, the only one whose codeword is so near, with its harm
abbrev pub Corrects : CodeModel → MediumModel → ℕ → (List ℕ → Type 0) → Result ℕ Fault → Type 0
Corrects c m p Gives r =
    results.MatchResult r
    (λ h. (u : List ℕ) × Restores m c p u × ((v : List ℕ) → Near c (word_of m p) (marks_of m p) v → v ≡ u) × Gives u × (h ≡ page_harm m p (c.codeword u)))
    (λ f. (u : List ℕ) → Restores m c p u → ⊥)

-- so does each read of a life, which gives the message's bytes, and each patrol, which puts its codeword back, unless its page or its buffer is refused
abbrev pub CorrectsEach : {c : CodeModel} {m m' : MediumModel} → Life c m m' → Type 0
CorrectsEach begins = Unit {0}
CorrectsEach (goes_on life (writes p payload r w)) = CorrectsEach life
CorrectsEach {c} (goes_on {m' = before} life (reads p buffer buffer' r w)) =
    (payload_refusal before c p buffer ≡ None → Corrects c before p (λ u. buffer' ≡ bytes_of (page_bytes c.message_len) u) r) × CorrectsEach life
CorrectsEach {c} (goes_on {m' = before} {m'' = after} life (patrols p r w)) =
    (page_refusal before p ≡ None → Corrects c before p (λ u. Changed before after p (stored (before.page p) (c.codeword u))) r) × CorrectsEach life
CorrectsEach (goes_on life (wears p i s r w)) = CorrectsEach life

module _ (c : CodeModel) {m : MediumModel} (p : ℕ) where
  -- the last accepted write of the page had this payload
  abbrev pub LastWrite : List ℕ → {m' : MediumModel} → Life c m m' → Type 0
  LastWrite payload begins = ⊥
  LastWrite payload (goes_on life (writes q written r w)) = MatchBool (q == p && is_ok r) (payload ≡ written) (LastWrite payload life)
  LastWrite payload (goes_on life (reads q b b' r w)) = LastWrite payload life
  LastWrite payload (goes_on life (patrols q r w)) = LastWrite payload life
  LastWrite payload (goes_on life (wears q i s r w)) = LastWrite payload life

  -- just before each accepted patrol of the page since its last accepted write, its harm from the recording was below the reach
  abbrev pub PatrolsNear : List ℕ → {m' : MediumModel} → Life c m m' → Type 0
  PatrolsNear payload begins = Unit {0}
  PatrolsNear payload (goes_on life (writes q written r w)) = MatchBool (q == p && is_ok r) (Unit {0}) (PatrolsNear payload life)
  PatrolsNear payload (goes_on life (reads q b b' r w)) = PatrolsNear payload life
  PatrolsNear payload (goes_on {m' = before} life (patrols q r w)) =
      MatchBool (q == p && is_ok r) ((page_harm before p (recording c payload) < c.distance) × PatrolsNear payload life) (PatrolsNear payload life)
  PatrolsNear payload (goes_on life (wears q i s r w)) = PatrolsNear payload life

  -- a cell of the page was worn since the page's last accepted write or patrol
  abbrev pub WornSince : ℕ → {m' : MediumModel} → Life c m m' → Type 0
  WornSince i begins = ⊥
  WornSince i (goes_on life (writes q written r w)) = MatchBool (q == p && is_ok r) ⊥ (WornSince i life)
  WornSince i (goes_on life (reads q b b' r w)) = WornSince i life
  WornSince i (goes_on life (patrols q r w)) = MatchBool (q == p && is_ok r) ⊥ (WornSince i life)
  WornSince i (goes_on life (wears q j s r w)) = MatchBool (q == p && (j == i && is_ok r)) (Unit {0}) (WornSince i life)

-- what holds of a page with a last accepted write, at the end of a life
pub record Standing (c : CodeModel) (m : MediumModel) (p : ℕ) (payload : List ℕ) (WornCell : ℕ → Type 0) : Type 0 where
  -- its readable unworn cells match the recording
  pub matches : (i : ℕ) → i < m.breadth → (WornCell i → ⊥) → (slice_index_or (m.page p) i 2 ≢ 2) → slice_index_or (m.page p) i 2 ≡ slice_index (recording c payload) i
  -- while the harm is below the reach, a read gives the payload and that harm
  pub reads_back : page_harm m p (recording c payload) < c.distance → (m' : MediumModel) (buffer buffer' : List ℕ) (r : Result ℕ Fault) → length buffer ≡ page_bytes c.message_len → AllByRecursion (λ b. b < 256) buffer → Recalled m m' c p buffer buffer' r → (r ≡ Ok (page_harm m p (recording c payload))) × (buffer' ≡ payload)
  -- and a patrol is accepted
  pub patrol_accepted : page_harm m p (recording c payload) < c.distance → (m' : MediumModel) (r : Result ℕ Fault) → Patrolled m m' c p r → is_ok r ≡ true

-- a life brings back what it last wrote to each page, and a further write is accepted
abbrev pub BringsBack : (c : CodeModel) {m m' : MediumModel} → Life c m m' → Type 0
BringsBack c {m} {m'} life =
    (p : ℕ) → p < m.pages
    → ((payload : List ℕ) → LastWrite c p payload life → PatrolsNear c p payload life → Standing c m' p payload (λ i. WornSince c p i life))
    × ((m'' : MediumModel) (payload : List ℕ) (r : Result ℕ Fault) → length payload ≡ page_bytes c.message_len → AllByRecursion (λ b. b < 256) payload → Written m' m'' c p payload r → is_ok r ≡ true)

-- the law of lives: over every life of a memory, what was written comes back while the harm stays below the reach
abbrev pub ComesBack : CodeModel → Type 0
ComesBack c = Lawful c → (m m' : MediumModel) → LawfulMedium m → Joins m c → (life : Life c m m') → BringsBack c life
