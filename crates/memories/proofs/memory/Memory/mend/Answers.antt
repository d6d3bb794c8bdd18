use Rattle.std.proofs.Common.{◌≡◌, ℕ, cond, ltb, Some, None, Ok, subst}
use Rattle.words.specs.declared.fault.Kind.TheVariants.{PageOutOfRange}
use Rattle.words.specs.declared.fault.Layer.TheVariants.{Medium}
use Rattle.words.specs.Soundness.{Sound}
use Rattle.words.specs.Faults.{fault}
use Rattle.words.proofs.Rises.{checked_ok}
use Rattle.memory_laws.specs.Calls.{Patrolled}
use Rattle.memory_laws.proofs.Accepts.{ok_not_err, clear_message, clear_word}
use Rattle.memory_laws.proofs.Outcomes.{page_there}
use Rattle.memory_laws.proofs.Restoring.{patrol_put}
use Rattle.memories.proofs.memory.Memory.mend.Given as given
use Rattle.memories.proofs.memory.Memory.mend.Goals as goal
use Rattle.memories.proofs.memory.Memory.mend.Goals.{After-put}

pub restore-requires-clause-message : goal.restore-requires-clause-message
restore-requires-clause-message g c =
    let code = c.args.self.now.code in
    clear_message (g.C.Code.model code) (g.met.C.Code.lawful code c.requires.code) c.message_len-bits.result (c.message_len-bits.ensures c.requires.code)

pub restore-requires-clause-word : goal.restore-requires-clause-word
restore-requires-clause-word g c =
    let code = c.args.self.now.code in
    clear_word (g.C.Code.model code) (g.met.C.Code.lawful code c.requires.code) c.len-cells.result (c.len-cells.ensures c.requires.code)

-- the medium takes the codeword
put_back : (g : given.Over) (c : After-put g) → Sound g.M.Medium.refusal c.put.new.self × ((c.put.result ≡ Ok tt) × Patrolled (g.M.Medium.model c.args.self.now.medium.now) (g.M.Medium.model c.put.new.self) (g.C.Code.model c.args.self.now.code) c.args.page (Ok c.in_ok-harm.harm))
put_back g c =
    let self = c.args.self.now in
    let mm = g.M.Medium.model self.medium.now in
    let mid = g.M.Medium.model c.restore.new.self.medium.now in
    let end = g.M.Medium.model c.put.new.self in
    let cm = g.C.Code.model self.code in
    let lc = g.met.C.Code.lawful self.code c.requires.code in
    let page = c.args.page in
    let passed = subst (λ (n : ℕ). cond (ltb page n) None (Some (fault PageOutOfRange Medium page)) ≡ None) (c.pages.ensures c.requires.medium) (checked_ok _ c.in_ok-check_page.ensures) in
    let got = c.in_ok-harm.ensures.done in
    let told = c.put.ensures.sound got.0 in
    (told.0, patrol_put mm mid cm page got.1.0 c.restore.new.message c.restore.new.word end c.in_ok-harm.harm c.put.result lc c.requires.joins (page_there mm page passed) passed got.1.1 told.1)

pub returns-in_err-put : goal.returns-in_err-put
returns-in_err-put g c =
    absurd (ok_not_err c.put.result tt c.in_err-put.field-0.0 (put_back g (goal.at.returns-in_err-put g c).After-put).1.0 c.in_err-put.was)
