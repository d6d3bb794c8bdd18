-- What a list of calls promises, whatever the medium and the code. Assumes nothing.
use Rattle.std.specs.Prelude.{ℕ, cond, ◌*◌, List, Some, None, Option, Result, ◌==◌}
use Rattle.words.specs.declared.fault.Fault.{Fault}
use Rattle.words.specs.declared.fault.Kind.TheVariants.{WrongLength}
use Rattle.words.specs.declared.fault.Layer.TheVariants.{Memory as the_memory}
use Rattle.words.specs.Buffers.{either}
use Rattle.words.specs.Faults.{fault}
use Rattle.words.specs.Soundness.{Sound}
use Rattle.codes.specs.declared.code.Code.{Ghosts as CodeGhosts}
use Rattle.codes.specs.Model.{CodeModel}
use Rattle.media.specs.declared.medium.Medium.{Ghosts as MediumGhosts}
use Rattle.media_laws.specs.Model.{MediumModel}
use Rattle.memory_laws.specs.Calls.{Joins}
use Rattle.memory_laws.specs.Lives.{BringsBack, Life}
use Rattle.memory_laws.specs.Payload.{page_bytes}
use Rattle.memories.specs.Promises.{join_refusal}
use Rattle.memories.specs.declared.memory.Memory.{Memory}
use Rattle.lives.specs.declared.call.Call.{Call}
use Rattle.lives.specs.Runs.{Run}

-- what was written comes back at every state along the way, and not only at the last: so it is with a life, and with each that it goes on from
abbrev pub AlwaysBringsBack : {c : CodeModel} {m m' : MediumModel} → Life c m m' → Type 0
AlwaysBringsBack {c} {m} Life.begins = BringsBack c {m = m} {m' = m} Life.begins
AlwaysBringsBack {c} (Life.goes_on life step) = AlwaysBringsBack life × BringsBack c (Life.goes_on life step)

-- answers of another number than the calls are refused first, and then payloads that are not so many bytes for each call
abbrev pub room_refusal : (calls bytes answers payloads : ℕ) → Option Fault
room_refusal calls bytes answers payloads =
    cond (answers == calls) (cond (payloads == bytes * calls) None (Some (fault WrongLength the_memory payloads)))
    (Some (fault WrongLength the_memory answers))

module _ {M C : Type 0} (media : MediumGhosts M) (codes : CodeGhosts C) (m : Memory M C) where
  -- parts that are not joined are refused before the room
  abbrev pub live_refusal : (calls answers payloads : ℕ) → Option Fault
  live_refusal calls answers payloads =
      either (join_refusal media codes m) (room_refusal calls (page_bytes (codes.model m.code).message_len) answers payloads)

  module _ (m' : Memory M C) where
    -- the calls, done from one state of the medium to the other
    abbrev pub Lives : List Call → List (Result ℕ Fault) → (payloads payloads' : List ℕ) → Type 0
    Lives calls answers payloads payloads' =
        Run media (codes.model m.code) m.medium.now calls answers payloads payloads' m'.medium.now

    -- this holds of every life that ends here, whenever it began: from any state of any medium that the code fits
    abbrev pub OfEachLife : ((start : MediumModel) → Life (codes.model m.code) start (media.model m'.medium.now) → Type 0) → Type 0
    OfEachLife Holds =
        (start : M) → Sound media.refusal start → Joins (media.model start) (codes.model m.code) → (life : Life (codes.model m.code) (media.model start) (media.model m'.medium.now)) → Holds (media.model start) life
