-- Calls of a memory, done one after another: what each answers and leaves, and the life that they are. Assumes nothing.
use Rattle.std.specs.Prelude.{◌≡◌, ℕ, List, [], ◌∷◌, ◌++◌, length, Ok, Err, Option, Result, MatchOption, MatchResult}
use Rattle.words.specs.declared.fault.Fault.{Fault}
use Rattle.codes.specs.Model.{CodeModel}
use Rattle.media.specs.declared.medium.Medium.{Ghosts as MediumGhosts}
use Rattle.media.specs.Promises.{page_refusal}
use Rattle.media_laws.specs.Model.{MediumModel}
use Rattle.memory_laws.specs.Calls.{Patrolled, Recalled, Restores, WornPage, Written, payload_refusal, recording}
use Rattle.memory_laws.specs.Lives.{Step, Life}
use Rattle.memory_laws.specs.Payload.{page_bytes}
use Rattle.lives.specs.declared.call.Call.{Call}
use Rattle.lives.specs.declared.call.Call.TheVariants.{Write, Read, Patrol, Wear}

-- what a call does to the cells, and its answer; nothing but a read fills its part of the payloads
abbrev pub Answered : Call → Result ℕ Fault → (part part' : List ℕ) → (m m' : MediumModel) → CodeModel → Type 0
Answered (Write page payload) answer part part' m m' c = Written m m' c page payload.now answer × (part' ≡ part)
Answered (Read page) answer part part' m m' c = Recalled m m' c page part part' answer
Answered (Patrol page) answer part part' m m' c = Patrolled m m' c page answer × (part' ≡ part)
Answered (Wear page cell state) answer part part' m m' c =
    (r : Result (Unit {0}) Fault) × WornPage m m' page cell state r × MatchResult r (λ _. answer ≡ Ok 0) (λ f. answer ≡ Err f) × (part' ≡ part)

-- so it is a step of a life
abbrev pub step_of : {c : CodeModel} {m m' : MediumModel} (call : Call) (answer : Result ℕ Fault) (part part' : List ℕ) → Answered call answer part part' m m' c → Step c m m'
step_of (Write page payload) answer part part' done = Step.writes page payload.now answer done.0
step_of (Read page) answer part part' done = Step.reads page part part' answer done
step_of (Patrol page) answer part part' done = Step.patrols page answer done.0
step_of (Wear page cell state) answer part part' done = Step.wears page cell state done.0 done.1

module _ {M : Type 0} (media : MediumGhosts M) (c : CodeModel) where
  module _ (m m' : M) where
    -- the bytes that a medium holds, and what it keeps beside its cells, as a call leaves them
    abbrev HoldsAll : Type 0
    HoldsAll = media.held m' ≡ media.held m

    abbrev Puts : (page : ℕ) → (cells : List ℕ) → Type 0
    Puts page cells = media.puts (media.order m) (media.model m).breadth (media.held m) (media.held m') page cells

    abbrev FetchesUnless : (page : ℕ) → Option Fault → Type 0
    FetchesUnless page due =
        MatchOption due (media.beside m' ≡ media.after_fetch page (media.beside m)) (λ _. media.beside m' ≡ media.beside m)

    -- a write puts what carries the payload and then fetches; a read fetches; a patrol fetches and puts back what the page is corrected to
    abbrev pub LeavesBytes : Call → Result ℕ Fault → Type 0
    LeavesBytes (Write page payload) answer = MatchResult answer (λ _. Puts page (recording c payload.now)) (λ _. HoldsAll)
    LeavesBytes (Read page) answer = HoldsAll
    LeavesBytes (Patrol page) answer =
        MatchResult answer (λ _. (u : List ℕ) × Restores (media.model m) c page u × Puts page (c.codeword u)) (λ _. HoldsAll)
    LeavesBytes (Wear page cell state) answer =
        MatchResult answer (λ _. media.wears (media.order m) (media.model m).breadth (media.held m) (media.held m') page cell state) (λ _. HoldsAll)

    abbrev pub LeavesBeside : Call → Result ℕ Fault → (part : List ℕ) → Type 0
    LeavesBeside (Write page payload) answer part =
        MatchResult answer (λ _. media.beside m' ≡ media.after_fetch page (media.after_put page (media.beside m))) (λ _. media.beside m' ≡ media.beside m)
    LeavesBeside (Read page) answer part = FetchesUnless page (payload_refusal (media.model m) c page part)
    LeavesBeside (Patrol page) answer part =
        MatchResult answer (λ _. media.beside m' ≡ media.after_put page (media.after_fetch page (media.beside m))) (λ _. FetchesUnless page (page_refusal (media.model m) page))
    LeavesBeside (Wear page cell state) answer part = media.beside m' ≡ media.beside m

    -- all that one call does
    pub record Does (call : Call) (answer : Result ℕ Fault) (part part' : List ℕ) : Type 0 where
      pub answered : Answered call answer part part' (media.model m) (media.model m') c
      pub bytes : LeavesBytes call answer
      pub beside : LeavesBeside call answer part

  -- calls that lead from one state of a medium to another, with the answers, and with the payloads before and after: for each call as
  -- many bytes as a page holds
  pub data Run (start : M) : List Call → List (Result ℕ Fault) → (payloads payloads' : List ℕ) → M → Type 0 where
    begins : Run start [] [] [] [] start
    goes_on : {calls : List Call} {answers : List (Result ℕ Fault)} {payloads payloads' : List ℕ} {m m' : M} → Run start calls answers payloads payloads' m → (call : Call) (answer : Result ℕ Fault) (part part' : List ℕ) → length part ≡ page_bytes c.message_len → Does m m' call answer part part' → Run start (calls ++ call ∷ []) (answers ++ answer ∷ []) (payloads ++ part) (payloads' ++ part') m'

  -- the life that they are
  pub life_of : {start m : M} {calls : List Call} {answers : List (Result ℕ Fault)} {payloads payloads' : List ℕ} → Run start calls answers payloads payloads' m → Life c (media.model start) (media.model m)
  life_of Run.begins = Life.begins
  life_of (Run.goes_on run call answer part part' whole does) = Life.goes_on (life_of run) (step_of call answer part part' does.answered)
