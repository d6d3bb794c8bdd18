-- One more call of a life, and what holds at every state along it. Assumes nothing.
use Rattle.std.proofs.Common.{◌≡◌, ℕ, suc, ◌+◌, ◌*◌, ◌<◌, ◌≤◌, List, ◌++◌, length, get_or, take, drop, set, Result, sym, ap, ◌∙◌, subst, arith, mul-suc, mul-le-mul_left}
use borrow.Rule.Slice.PartMut.{put_mid}
use Rattle.std.proofs.lemmas.List.{drop-drop, length-drop, length-take-le, take_more, take_more_set}
use Rattle.std.proofs.Math.Seq.{take-add}
use Rattle.std.proofs.lemmas.Slice.{drop-put_mid, take-put_mid}
use Rattle.words.specs.declared.fault.Fault.{Fault}
use Rattle.words.specs.Soundness.{Sound}
use Rattle.codes.specs.declared.code.Code.{Ghosts as CodeGhosts}
use Rattle.codes.specs.Model.{CodeModel, Lawful}
use Rattle.media_laws.specs.Model.{MediumModel, LawfulMedium}
use Rattle.media.specs.declared.medium.Medium.{Ghosts as MediumGhosts}
use Rattle.memory_laws.specs.Calls.{Joins}
use Rattle.memory_laws.specs.Lives.{Step, Life}
use Rattle.memory_laws.specs.Payload.{page_bytes}
use Rattle.memory_laws.proofs.ComesBack.{comes_back}
use Rattle.memory_laws.proofs.Lives.{joins_on, life_follows}
use Rattle.memories.specs.declared.memory.Memory.{Memory}
use Rattle.memories.specs.Promises.{Joined, Kept}
use Rattle.lives.specs.declared.call.Call.{Call}
use Rattle.lives.specs.Promises.{AlwaysBringsBack}
use Rattle.lives.specs.Runs.{Answered, Does, LeavesBeside, LeavesBytes, Run}

-- what is written comes back at every state along a life
pub always_back : (c : CodeModel) → Lawful c → {m m' : MediumModel} → LawfulMedium m → Joins m c → (life : Life c m m') → AlwaysBringsBack life
always_back c lc {m} lm j Life.begins = comes_back c lc m m lm j Life.begins
always_back c lc {m} {m'} lm j (Life.goes_on life step) =
    (always_back c lc lm j life, comes_back c lc m m' lm j (Life.goes_on life step))

-- the part of a call lies within a room that has one for each
pub part_in : (bytes calls i : ℕ) → i < calls → bytes * i + bytes ≤ bytes * calls
part_in bytes calls i l = omega (arith, mul-suc bytes i, mul-le-mul_left {m = suc i} {n = calls} bytes l)

-- what a call of a memory did, which keeps its code
pub does_of : {M C : Type 0} (media : MediumGhosts M) (model : C → CodeModel) (code code' : C) → code' ≡ code → {m m' : M} (call : Call) (answer : Result ℕ Fault) (part part' : List ℕ) → Answered call answer part part' (media.model m) (media.model m') (model code') → LeavesBytes media (model code') m m' call answer → LeavesBeside media (model code') m m' call answer part → Does media (model code) m m' call answer part part'
does_of {C = C} media model code code' same {m} {m'} call answer part part' answered bytes beside =
    subst (λ (x : C). Does media (model x) m m' call answer part part') same (record { answered = answered; bytes = bytes; beside = beside })

module _ {M : Type 0} (media : MediumGhosts M) (c : CodeModel) {start m : M} where
  -- the same calls, answers and payloads under other names
  moved : (calls calls' : List Call) (answers answers' : List (Result ℕ Fault)) (before before' after after' : List ℕ) → calls ≡ calls' → answers ≡ answers' → before ≡ before' → after ≡ after' → Run media c start calls answers before after m → Run media c start calls' answers' before' after' m
  moved calls calls' answers answers' before before' after after' ec ea eb ef run =
      let by_calls = subst (λ (x : List Call). Run media c start x answers before after m) ec run in
      let by_answers = subst (λ (x : List (Result ℕ Fault)). Run media c start calls' x before after m) ea by_calls in
      let by_before = subst (λ (x : List ℕ). Run media c start calls' answers' x after m) eb by_answers in
      subst (λ (x : List ℕ). Run media c start calls' answers' before' x m) ef by_before

module _ (bytes : ℕ) (room before ys : List ℕ) (n : ℕ) (fits : bytes * n + bytes ≤ length before) (ahead : drop (bytes * n) before ≡ drop (bytes * n) room) (wide : length ys ≡ bytes) where
  abbrev part : List ℕ
  part = take bytes (drop (bytes * n) before)

  next : bytes * (n + 1) ≡ bytes * n + bytes
  next = omega arith

  -- the run with one more call
  pub lived_on : {M : Type 0} (media : MediumGhosts M) (c : CodeModel) → bytes ≡ page_bytes c.message_len → {start m m' : M} (calls : List Call) (answers : List (Result ℕ Fault)) → n < length calls → n < length answers → (default : Call) (answer : Result ℕ Fault) (k : ℕ) → k ≡ bytes → Run media c start (take n calls) (take n answers) (take (bytes * n) room) (take (bytes * n) before) m → Does media c m m' (get_or calls n default) answer (take k (drop (bytes * n) before)) ys → Run media c start (take (n + 1) calls) (take (n + 1) (set answers n answer)) (take (bytes * (n + 1)) room) (take (bytes * (n + 1)) (put_mid (bytes * n) k before ys)) m'
  lived_on media c whole {start} {m} {m'} calls answers listed within default answer k span run does =
      let call = get_or calls n default in
      let done = subst (λ (x : ℕ). Does media c m m' call answer (take x (drop (bytes * n) before)) ys) span does in
      let long : length part ≡ bytes = length-take-le bytes (drop (bytes * n) before) (omega (arith, length-drop (bytes * n) before, fits)) in
      let more = Run.goes_on run call answer part ys (long ∙ whole) done in
      let parts : take (bytes * n) room ++ part ≡ take (bytes * (n + 1)) room =
      ap (λ (xs : List ℕ). take (bytes * n) room ++ take bytes xs) ahead
      ∙ sym (take-add (bytes * n) bytes room)
      ∙ ap (λ (x : ℕ). take x room) (sym next) in
      let filled : take (bytes * n) before ++ ys ≡ take (bytes * (n + 1)) (put_mid (bytes * n) k before ys) =
      sym (take-put_mid (bytes * n) k before ys (bytes * (n + 1)) (next ∙ ap (λ (x : ℕ). bytes * n + x) (sym wide)) (omega (arith, fits))) in
      moved media c _ _ _ _ _ _ _ _ (sym (take_more calls n default listed)) (sym (take_more_set answers n answer within)) parts filled more

  -- the room behind the part that was written
  pub ahead_more : (k : ℕ) → k ≡ bytes → drop (bytes * (n + 1)) (put_mid (bytes * n) k before ys) ≡ drop (bytes * (n + 1)) room
  ahead_more k span =
      drop-put_mid (bytes * n) k before ys (bytes * (n + 1)) (omega (arith, next)) (omega (arith, fits)) (wide ∙ sym span)
      ∙ ap (λ (x : ℕ). drop x before) next
      ∙ sym (drop-drop bytes (bytes * n) before)
      ∙ ap (drop bytes) ahead
      ∙ drop-drop bytes (bytes * n) room
      ∙ ap (λ (x : ℕ). drop x room) (sym next)

module _ {M C : Type 0} (media : MediumGhosts M) (codes : CodeGhosts C) where
  -- what two calls in turn leave as it is
  pub kept_on : (m m' m'' : Memory M C) → Kept media codes m m' → Kept media codes m' m'' → Kept media codes m m''
  kept_on m m' m'' k k' =
      record { lenders = k'.lenders ∙ k.lenders; order = k'.order ∙ k.order; medium = k'.medium ∙ k.medium; code = k'.code ∙ k.code }

  -- parts that are joined are joined after a call too
  pub joined_on : (m m' : Memory M C) → LawfulMedium (media.model m.medium.now) → Lawful (codes.model m.code) → Joined media codes m → Kept media codes m m' → Sound media.refusal m'.medium.now → Step (codes.model m.code) (media.model m.medium.now) (media.model m'.medium.now) → Joined media codes m'
  joined_on m m' lm lc j k sound step =
      let c = codes.model m.code in
      let follows = life_follows c lc lm j.joins (Life.goes_on Life.begins step) in
      let joins = joins_on c lc (media.model m.medium.now) (media.model m'.medium.now) follows j.joins in
      record {
        medium = sound;
        code = subst (Sound codes.refusal) (sym k.code) j.code;
        joins = subst (λ (x : C). Joins (media.model m'.medium.now) (codes.model x)) (sym k.code) joins;
      }
