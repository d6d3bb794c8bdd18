-- What the calls of a memory answer: a code joined to a medium. Assumes nothing.
use Rattle.std.specs.Prelude.{◌≡◌, ℕ, ◌≤◌, ◌&&◌, ◌⊎◌, cond, List, [], ◌∷◌, map, Some, None, Ok, Err, count_by, Option, Result, ◌==◌, nat_eq, nat_le, slice_set}
use Rattle.std.specs.Option as options
use Rattle.std.specs.Result as results
use Rattle.words.specs.declared.fault.Fault.{Fault}
use Rattle.words.specs.declared.fault.Kind.TheVariants.{NoCodeword, SpareBitSet, UnfitMemory}
use Rattle.words.specs.declared.fault.Layer.TheVariants.{Code, Memory}
use Rattle.words.specs.Buffers.{either, refusal, written_to}
use Rattle.words.specs.Faults.{fault, on_page}
use Rattle.words.specs.Harm.{harm}
use Rattle.codes.specs.Model.{CodeModel, Near}
use Rattle.media_laws.specs.Model.{MediumModel, value_of, mark_of, stored, Unchanged, Changed}
use Rattle.media.specs.Promises.{page_refusal, cell_refusal}
use Rattle.memory_laws.specs.Payload.{carrying, bytes_of, page_bytes, FirstSpare, SpareClear}

-- the code has width 1 and the length of a page, and a page holds a byte
pub record Joins (m : MediumModel) (c : CodeModel) : Type 0 where
  pub bits : c.width ≡ 1
  pub same_length : c.len ≡ m.breadth
  pub some_byte : 1 ≤ page_bytes c.message_len

-- 19 where they do not join
abbrev pub unfit : MediumModel → CodeModel → Option Fault
unfit m c =
    cond (((c.width == 1) && (c.len == m.breadth)) && nat_le 1 (page_bytes c.message_len)) None
    (Some (fault UnfitMemory Memory 0))

-- a refusal that is due, with the page added
abbrev pub at_page : Option Fault → ℕ → Option Fault
at_page None p = None
at_page (Some f) p = Some (on_page f p)

-- what refuses a memory: its parts' own refusal, and then 19
abbrev pub join_refusal : MediumModel → CodeModel → (parts : Option Fault) → Option Fault
join_refusal m c parts = either parts (unfit m c)

-- and its call on a page: its parts' own refusal with the page added, and then 19, which names none
abbrev pub call_refusal : MediumModel → CodeModel → (parts : Option Fault) → (page : ℕ) → Option Fault
call_refusal m c parts p = either (at_page parts p) (unfit m c)

-- the answer of a call with the page added to its fault
abbrev pub paged : {X : Type 0} → Result X Fault → ℕ → Result X Fault
paged (Ok x) p = Ok x
paged (Err f) p = Err (on_page f p)

-- a page as it is fetched
abbrev pub word_of : MediumModel → ℕ → List ℕ
word_of m p = map value_of (m.page p)

abbrev pub marks_of : MediumModel → ℕ → List ℕ
marks_of m p = map mark_of (m.page p)

-- the harm of a page from a codeword
abbrev pub page_harm : MediumModel → ℕ → List ℕ → ℕ
page_harm m p codeword = harm (word_of m p) (marks_of m p) codeword

abbrev pub blanks : List ℕ → ℕ
blanks states = count_by (λ s. nat_eq s 2) states

-- the codeword that carries a payload
abbrev pub recording : CodeModel → List ℕ → List ℕ
recording c payload = c.codeword (carrying c.message_len payload)

-- a refusal by page or payload
abbrev pub payload_refusal : MediumModel → CodeModel → ℕ → List ℕ → Option Fault
payload_refusal m c p payload = either (page_refusal m p) (refusal Memory (written_to (page_bytes c.message_len) payload ∷ []))

-- the message that a page is corrected to, none of whose spare bits is set
abbrev pub Restores : MediumModel → CodeModel → ℕ → List ℕ → Type 0
Restores m c p u = Near c (word_of m p) (marks_of m p) u × SpareClear c.message_len u

-- why a page is not corrected: nothing is near enough, or the first spare bit that is set
abbrev pub Unrestored : MediumModel → CodeModel → ℕ → Fault → Type 0
Unrestored m c p f =
    ((place : ℕ) × c.Blames (word_of m p) (marks_of m p) place × (f ≡ on_page (fault NoCodeword Code place) p) × ((u : List ℕ) → Near c (word_of m p) (marks_of m p) u → ⊥))
    ⊎ ((u : List ℕ) × Near c (word_of m p) (marks_of m p) u × (bit : ℕ) × (f ≡ on_page (fault SpareBitSet Memory bit) p) × FirstSpare c.message_len u bit)

-- a page is fetched and corrected: the message and its codeword, with the harm
abbrev pub Restored : MediumModel → CodeModel → ℕ → List ℕ → List ℕ → Result ℕ Fault → Type 0
Restored m c p message word r =
    results.MatchResult r
    (λ h. Restores m c p message × (word ≡ c.codeword message) × (h ≡ page_harm m p word))
    (λ f. Unrestored m c p (on_page f p))

-- write: the page takes the recording, and the answer is how many of its cells are then blank
abbrev pub Written : MediumModel → MediumModel → CodeModel → ℕ → List ℕ → Result ℕ Fault → Type 0
Written m m' c p payload r =
    options.MatchOption (payload_refusal m c p payload)
    ((r ≡ Ok (blanks (m'.page p))) × Changed m m' p (stored (m.page p) (recording c payload)))
    (λ f. (r ≡ Err (on_page f p)) × Unchanged m m')

-- read: the bytes of the message that the page is corrected to, and the harm
abbrev pub Recalled : MediumModel → MediumModel → CodeModel → ℕ → List ℕ → List ℕ → Result ℕ Fault → Type 0
Recalled m m' c p payload payload' r =
    Unchanged m m'
    × options.MatchOption (payload_refusal m c p payload)
    (results.MatchResult r
    (λ h. (u : List ℕ) × Restores m c p u × (payload' ≡ bytes_of (page_bytes c.message_len) u) × (h ≡ page_harm m p (c.codeword u)))
    (λ f. Unrestored m c p f × (payload' ≡ payload)))
    (λ f. (r ≡ Err (on_page f p)) × (payload' ≡ payload))

-- patrol: the codeword that the page is corrected to is put back, and the answer is the harm
abbrev pub Patrolled : MediumModel → MediumModel → CodeModel → ℕ → Result ℕ Fault → Type 0
Patrolled m m' c p r =
    options.MatchOption (page_refusal m p)
    (results.MatchResult r
    (λ h. (u : List ℕ) × Restores m c p u × Changed m m' p (stored (m.page p) (c.codeword u)) × (h ≡ page_harm m p (c.codeword u)))
    (λ f. Unrestored m c p f × Unchanged m m'))
    (λ f. (r ≡ Err (on_page f p)) × Unchanged m m')

-- wear: as of the medium, with the page added to a refusal
abbrev pub WornPage : MediumModel → MediumModel → ℕ → ℕ → ℕ → Result (Unit {0}) Fault → Type 0
WornPage m m' p i s r =
    options.MatchOption (either (page_refusal m p) (cell_refusal m i s))
    ((r ≡ Ok tt) × Changed m m' p (slice_set (m.page p) i s))
    (λ f. (r ≡ Err (on_page f p)) × Unchanged m m')

-- a read leaves one answer and one payload
abbrev pub OneRead : MediumModel → CodeModel → ℕ → (payload : List ℕ) → Type 0
OneRead m c p payload =
    (m' m'' : MediumModel) (x x' : List ℕ) (r r' : Result ℕ Fault)
    → Recalled m m' c p payload x r → Recalled m m'' c p payload x' r' → (x' ≡ x) × (r' ≡ r)

-- and a patrol one answer and one state of each page
abbrev pub OnePatrol : MediumModel → CodeModel → ℕ → Type 0
OnePatrol m c p =
    (m' m'' : MediumModel) (r r' : Result ℕ Fault)
    → Patrolled m m' c p r → Patrolled m m'' c p r' → (r' ≡ r) × Unchanged m' m''
