use Rattle.std.proofs.Common.{◌≡◌, ℕ, ◌^◌, ◌<◌, length, take, replicate, Ok, Err, sym, ap, ◌∙◌, subst, inl}
use Rattle.std.specs.List.{AllByRecursion}
use Rattle.std.proofs.lemmas.List.{length-replicate}
use Rattle.words.specs.Soundness.{Sound}
use Rattle.words.specs.Faults.{on_page}
use Rattle.words.proofs.Rises.{raised}
use Rattle.codes.specs.Model.{Message}
use Rattle.media_laws.specs.Model.{Unchanged}
use Rattle.memory_laws.specs.Calls.{Restored, word_of, marks_of}
use Rattle.memory_laws.proofs.Accepts.{ok_not_err, clear_word}
use Rattle.memory_laws.proofs.Restoring.{Nearest, fetches_page, corrects, recovers}
use Rattle.memories.proofs.memory.Memory.restore.Given as given
use Rattle.memories.proofs.memory.Memory.restore.Goals as goal
use Rattle.memories.proofs.memory.Memory.restore.Goals.{After-fetch, After-message_of}

-- the page is fetched as it is
fetched : (g : given.Over) (c : After-fetch g) → (Sound g.M.Medium.refusal c.fetch.new.self × Unchanged (g.M.Medium.model c.args.self.now.medium.now) (g.M.Medium.model c.fetch.new.self)) × ((c.fetch.result ≡ Ok tt) × (c.fetch.new.cells ≡ word_of (g.M.Medium.model c.args.self.now.medium.now) c.args.page) × (c.fetch.new.marks ≡ marks_of (g.M.Medium.model c.args.self.now.medium.now) c.args.page))
fetched g c =
    let self = c.args.self.now in
    let mm = g.M.Medium.model self.medium.now in
    let cm = g.C.Code.model self.code in
    let lm = g.met.M.Medium.lawful self.medium.now c.requires.joined.medium in
    let lc = g.met.C.Code.lawful self.code c.requires.joined.code in
    let told = c.fetch.ensures.sound c.requires.joined.medium in
    let long = ap length c.requires.word ∙ length-replicate {A = ℕ} cm.len 0 in
    let got = fetches_page mm (g.M.Medium.model c.fetch.new.self) cm lm lc c.requires.joined.joins c.args.page c.requires.page c.args.word.now (take (length c.args.word.now) (replicate 4096 0)) c.fetch.new.cells c.fetch.new.marks c.fetch.result c.requires.word (clear_word cm lc (length c.args.word.now) long) told.1 in
    ((told.0, got.0), got.1)

pub returns-in_err-fetch : goal.returns-in_err-fetch
returns-in_err-fetch g c =
    absurd (ok_not_err c.fetch.result tt c.in_err-fetch.field-0.0 (fetched g (goal.at.returns-in_err-fetch g c).After-fetch).1.0 c.in_err-fetch.was)

pub returns-in_err-harm-clause-done : goal.returns-in_err-harm-clause-done
returns-in_err-harm-clause-done g c =
    let self = c.args.self.now in
    let mm = g.M.Medium.model self.medium.now in
    let cm = g.C.Code.model self.code in
    let lm = g.met.M.Medium.lawful self.medium.now c.requires.joined.medium in
    let lc = g.met.C.Code.lawful self.code c.requires.joined.code in
    let p = c.args.page in
    let f = c.in_err-harm.field-0.0 in
    let got = fetched g (goal.at.returns-in_err-harm-clause-done g c).After-fetch in
    let none = corrects mm mm cm lm lc c.requires.joined.joins p c.requires.page c.fetch.new.cells c.fetch.new.marks c.correct.new.word (Err f) got.1.1 got.1.2 (c.in_err-harm.ensures.sound c.requires.joined.code) in
    let is = raised c.from_residual-in_err-harm.result c.from_residual-in_err-harm.ensures.1 in
    (got.0.0, (got.0.1, subst (Restored mm cm p c.args.message.now c.correct.new.word) (sym is) (inl (none.0, none.1, ap (λ x. on_page x p) none.2, none.3))))

-- a word that is corrected has a message
recovered : (g : given.Over) (c : After-message_of g) → c.fetch.new.cells ≡ word_of (g.M.Medium.model c.args.self.now.medium.now) c.args.page → c.fetch.new.marks ≡ marks_of (g.M.Medium.model c.args.self.now.medium.now) c.args.page → Nearest (g.M.Medium.model c.args.self.now.medium.now) (g.C.Code.model c.args.self.now.code) c.args.page c.correct.new.word c.in_ok-harm.harm × ((c.message_of.result ≡ Ok tt) × Message (g.C.Code.model c.args.self.now.code) c.message_of.new.message × ((g.C.Code.model c.args.self.now.code).codeword c.message_of.new.message ≡ c.correct.new.word))
recovered g c cells marks =
    let self = c.args.self.now in
    let mm = g.M.Medium.model self.medium.now in
    let cm = g.C.Code.model self.code in
    let lm = g.met.M.Medium.lawful self.medium.now c.requires.joined.medium in
    let lc = g.met.C.Code.lawful self.code c.requires.joined.code in
    let near = corrects mm mm cm lm lc c.requires.joined.joins c.args.page c.requires.page c.fetch.new.cells c.fetch.new.marks c.correct.new.word (Ok c.in_ok-harm.harm) cells marks (c.in_ok-harm.ensures.sound c.requires.joined.code) in
    (near, recovers cm lc near.0 c.correct.new.word c.args.message.now c.message_of.new.message c.message_of.result near.1.0 near.2 c.requires.message (c.message_of.ensures.sound c.requires.joined.code))

pub returns-in_err-message_of : goal.returns-in_err-message_of
returns-in_err-message_of g c =
    let at = goal.at.returns-in_err-message_of g c in
    let got = fetched g at.After-fetch in
    absurd (ok_not_err c.message_of.result tt c.in_err-message_of.field-0.0 (recovered g at.After-message_of got.1.1 got.1.2).1.0 c.in_err-message_of.was)

pub check_spare-requires : goal.check_spare-requires
check_spare-requires g c =
    let at = goal.at.check_spare-requires g c in
    let got = fetched g at.After-fetch in
    subst (λ (x : ℕ). AllByRecursion (λ v. v < 2 ^ x) c.message_of.new.message) c.requires.joined.joins.bits (recovered g at.After-message_of got.1.1 got.1.2).1.1.1
