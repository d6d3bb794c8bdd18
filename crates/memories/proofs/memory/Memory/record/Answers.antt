use Rattle.std.proofs.Common.{◌≡◌, ℕ, eqb, List, length, take, replicate, None, Ok, count_by, Result, ap, ◌∙◌, subst}
use Rattle.std.proofs.lemmas.List.{length-replicate}
use Rattle.words.specs.declared.fault.Fault.{Fault}
use Rattle.words.specs.Soundness.{Sound}
use Rattle.words.proofs.Rises.{checked_ok}
use Rattle.codes.specs.Model.{CodeModel}
use Rattle.codes.specs.Promises.{Encoded}
use Rattle.media_laws.specs.Model.{MediumModel, Changed, stored}
use Rattle.memory_laws.specs.Calls.{blanks, payload_refusal, recording}
use Rattle.memory_laws.specs.Payload.{carrying}
use Rattle.memory_laws.proofs.Accepts.{ok_not_err, call_passed, clear_message, clear_word, encodes, puts, fetches}
use Rattle.memories.proofs.memory.Memory.record.Given as given
use Rattle.memories.proofs.memory.Memory.record.Goals as goal
use Rattle.memories.proofs.memory.Memory.record.Goals.{After-encode, After-put, After-fetch}

-- the payload passed, and the word is its recording
abbrev Recorded : MediumModel → CodeModel → ℕ → List ℕ → List ℕ → Result (Unit {0}) Fault → Type 0
Recorded m c p payload word r = (r ≡ Ok tt) × (word ≡ recording c payload) × (payload_refusal m c p payload ≡ None)

encoded : (g : given.Over) (c : After-encode g) → Recorded (g.M.Medium.model c.args.self.now.medium.now) (g.C.Code.model c.args.self.now.code) c.args.page c.args.payload.now c.encode.new.word c.encode.result
encoded g c =
    let mm = g.M.Medium.model c.args.self.now.medium.now in
    let cm = g.C.Code.model c.args.self.now.code in
    let page = c.args.page in
    let payload = c.args.payload.now in
    let lc = g.met.C.Code.lawful c.args.self.now.code c.requires.code in
    let bits = c.message_len-bits.ensures c.requires.code in
    let passed = call_passed mm cm page c.pages.result c.message_len-bits.result payload (c.pages.ensures c.requires.medium) bits (checked_ok _ c.in_ok-check_call.ensures) in
    let room = ap length (clear_message cm lc c.message_len-bits.result bits) ∙ length-replicate {A = ℕ} cm.message_len 0 in
    let zeros = clear_word cm lc c.len-cells.result (c.len-cells.ensures c.requires.code) in
    let word = take c.len-cells.result (replicate 4096 0) in
    let told = subst (λ (xs : List ℕ). Encoded cm xs word c.encode.new.word c.encode.result) (c.spread.ensures ∙ ap (λ n. carrying n payload) room) (c.encode.ensures.sound c.requires.code) in
    let got = encodes mm mm mm cm lc c.requires.joins page payload passed word c.encode.new.word c.encode.result zeros told in
    (got.0, got.1, passed)

pub returns-in_err-encode : goal.returns-in_err-encode
returns-in_err-encode g c =
    absurd (ok_not_err c.encode.result tt c.in_err-encode.field-0.0 (encoded g (goal.at.returns-in_err-encode g c).After-encode).0 c.in_err-encode.was)

-- the medium takes the recording
abbrev Taken : MediumModel → MediumModel → CodeModel → ℕ → List ℕ → Result (Unit {0}) Fault → Type 0
Taken m m' c p payload r = (r ≡ Ok tt) × Changed m m' p (stored (m.page p) (recording c payload))

put_to_page : (g : given.Over) (c : After-put g) → Recorded (g.M.Medium.model c.args.self.now.medium.now) (g.C.Code.model c.args.self.now.code) c.args.page c.args.payload.now c.encode.new.word c.encode.result → Sound g.M.Medium.refusal c.put.new.self × Taken (g.M.Medium.model c.args.self.now.medium.now) (g.M.Medium.model c.put.new.self) (g.C.Code.model c.args.self.now.code) c.args.page c.args.payload.now c.put.result
put_to_page g c is =
    let mm = g.M.Medium.model c.args.self.now.medium.now in
    let mid = g.M.Medium.model c.put.new.self in
    let cm = g.C.Code.model c.args.self.now.code in
    let lc = g.met.C.Code.lawful c.args.self.now.code c.requires.code in
    let told = c.put.ensures.sound c.requires.medium in
    (told.0, puts mm mid mid cm lc c.requires.joins c.args.page c.args.payload.now is.2 c.encode.new.word c.put.result is.1 told.1)

pub returns-in_err-put : goal.returns-in_err-put
returns-in_err-put g c =
    let at = goal.at.returns-in_err-put g c in
    absurd (ok_not_err c.put.result tt c.in_err-put.field-0.0 (put_to_page g at.After-put (encoded g at.After-encode)).1.0 c.in_err-put.was)

-- what the medium then shows
seen : (g : given.Over) (c : After-fetch g) → Recorded (g.M.Medium.model c.args.self.now.medium.now) (g.C.Code.model c.args.self.now.code) c.args.page c.args.payload.now c.encode.new.word c.encode.result → Sound g.M.Medium.refusal c.put.new.self × Taken (g.M.Medium.model c.args.self.now.medium.now) (g.M.Medium.model c.put.new.self) (g.C.Code.model c.args.self.now.code) c.args.page c.args.payload.now c.put.result → Sound g.M.Medium.refusal c.fetch.new.self × Taken (g.M.Medium.model c.args.self.now.medium.now) (g.M.Medium.model c.fetch.new.self) (g.C.Code.model c.args.self.now.code) c.args.page c.args.payload.now c.fetch.result × (count_by (λ x. eqb x 1) c.fetch.new.marks ≡ blanks ((g.M.Medium.model c.fetch.new.self).page c.args.page))
seen g c is put =
    let mm = g.M.Medium.model c.args.self.now.medium.now in
    let mid = g.M.Medium.model c.put.new.self in
    let end = g.M.Medium.model c.fetch.new.self in
    let cm = g.C.Code.model c.args.self.now.code in
    let lc = g.met.C.Code.lawful c.args.self.now.code c.requires.code in
    let told = c.fetch.ensures.sound put.0 in
    let zeros = clear_word cm lc c.len-cells.result (c.len-cells.ensures c.requires.code) in
    let got = fetches mm mid end cm lc c.requires.joins c.args.page c.args.payload.now is.2 c.encode.new.word (take c.len-cells.result (replicate 4096 0)) c.fetch.new.cells c.fetch.new.marks c.fetch.result is.1 zeros put.1.1 told.1 in
    (told.0, (got.0, got.1.0), got.1.1)

pub returns-in_err-fetch : goal.returns-in_err-fetch
returns-in_err-fetch g c =
    let at = goal.at.returns-in_err-fetch g c in
    let is = encoded g at.After-encode in
    absurd (ok_not_err c.fetch.result tt c.in_err-fetch.field-0.0 (seen g at.After-fetch is (put_to_page g at.After-put is)).1.0 c.in_err-fetch.was)
