-- What the calls of a memory promise, whatever its medium and its code. Assumes nothing.
use Rattle.std.specs.Prelude.{◌≡◌, ℕ, List, Option, MatchOption}
use Rattle.words.specs.declared.fault.Fault.{Fault}
use Rattle.words.specs.Buffers.{either}
use Rattle.words.specs.Soundness.{Sound}
use Rattle.codes.specs.declared.code.Code.{Ghosts as CodeGhosts}
use Rattle.codes.specs.Model.{CodeModel}
use Rattle.media.specs.declared.medium.Medium.{Ghosts as MediumGhosts}
use Rattle.media_laws.specs.Model.{MediumModel}
use Rattle.memory_laws.specs.Calls as calls
use Rattle.memory_laws.specs.Calls.{Joins, Restores}
use Rattle.memories.specs.declared.memory.Memory.{Memory}

module _ {M C : Type 0} (media : MediumGhosts M) (codes : CodeGhosts C) where
  -- both parts are sound, and the code fits the medium
  pub record Joined (m : Memory M C) : Type 0 where
    pub medium : Sound media.refusal m.medium.now
    pub code : Sound codes.refusal m.code
    pub joins : Joins (media.model m.medium.now) (codes.model m.code)

  -- what refuses a part: the medium comes first
  abbrev pub parts_refusal : Memory M C → Option Fault
  parts_refusal m = either (media.refusal m.medium.now) (codes.refusal m.code)

  -- what refuses a memory whose parts are not joined
  abbrev pub join_refusal : Memory M C → Option Fault
  join_refusal m = calls.join_refusal (media.model m.medium.now) (codes.model m.code) (parts_refusal m)

  -- and what refuses its call on a page, which the fault names, but for 19
  abbrev pub call_refusal : Memory M C → (page : ℕ) → Option Fault
  call_refusal m page = calls.call_refusal (media.model m.medium.now) (codes.model m.code) (parts_refusal m) page

  -- what a call leaves as it is, done or refused
  pub record Kept (m m' : Memory M C) : Type 0 where
    pub lenders : media.lenders m'.medium.now ≡ media.lenders m.medium.now
    pub order : media.order m'.medium.now ≡ media.order m.medium.now
    pub medium : m'.medium.ghost_name ≡ m.medium.ghost_name
    pub code : m'.code ≡ m.code

  -- what the medium holds, byte for byte, is the same
  abbrev pub Holds : Memory M C → Memory M C → Type 0
  Holds m m' = media.held m'.medium.now ≡ media.held m.medium.now

  -- and this is what it holds once cells are put to a page, and once one cell of it is worn to a state
  abbrev pub Puts : Memory M C → Memory M C → (page : ℕ) → (cells : List ℕ) → Type 0
  Puts m m' page cells =
      media.puts (media.order m.medium.now) (media.model m.medium.now).breadth (media.held m.medium.now)
      (media.held m'.medium.now) page cells

  abbrev pub Wears : Memory M C → Memory M C → (page cell state : ℕ) → Type 0
  Wears m m' page cell state =
      media.wears (media.order m.medium.now) (media.model m.medium.now).breadth (media.held m.medium.now)
      (media.held m'.medium.now) page cell state

  -- the message that a page is corrected to, whose codeword is put back
  abbrev pub PutsBack : Memory M C → Memory M C → ℕ → Type 0
  PutsBack m m' page =
      (u : List ℕ)
      × Restores (media.model m.medium.now) (codes.model m.code) page u
      × Puts m m' page ((codes.model m.code).codeword u)

  -- what the medium keeps beside its cells stays, or is as it is after a fetch of a page, a put and then a fetch, or a fetch and
  -- then a put
  abbrev pub Stays : Memory M C → Memory M C → Type 0
  Stays m m' = media.beside m'.medium.now ≡ media.beside m.medium.now

  abbrev pub Looks : Memory M C → Memory M C → ℕ → Type 0
  Looks m m' page = media.beside m'.medium.now ≡ media.after_fetch page (media.beside m.medium.now)

  abbrev pub PutsAndLooks : Memory M C → Memory M C → ℕ → Type 0
  PutsAndLooks m m' page =
      media.beside m'.medium.now ≡ media.after_fetch page (media.after_put page (media.beside m.medium.now))

  abbrev pub LooksAndPuts : Memory M C → Memory M C → ℕ → Type 0
  LooksAndPuts m m' page =
      media.beside m'.medium.now ≡ media.after_put page (media.after_fetch page (media.beside m.medium.now))

  -- a page is looked at unless its call is refused before
  abbrev pub LooksUnless : Memory M C → Memory M C → ℕ → Option Fault → Type 0
  LooksUnless m m' page due = MatchOption due (Looks m m' page) (λ _. Stays m m')

  -- what is asked of a memory whose parts are joined: its medium stays sound
  abbrev pub Done : Memory M C → Memory M C → (MediumModel → MediumModel → CodeModel → Type 0) → Type 0
  Done m m' Asked =
      Sound media.refusal m'.medium.now × Asked (media.model m.medium.now) (media.model m'.medium.now) (codes.model m.code)
