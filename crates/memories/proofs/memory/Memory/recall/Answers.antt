use Rattle.std.proofs.Common.{ℕ, ◌^◌, ◌<◌, subst, arith}
use Rattle.std.specs.List.{AllByRecursion}
use Rattle.words.proofs.Rises.{checked_ok}
use Rattle.memory_laws.proofs.Accepts.{call_passed, clear_message, clear_word}
use Rattle.memory_laws.proofs.Outcomes.{payload_passed}
use Rattle.memories.proofs.memory.Memory.recall.Goals as goal
use Rattle.memories.proofs.memory.Memory.recall.Goals.{In_ok-check_call}

pub restore-requires-clause-message : goal.restore-requires-clause-message
restore-requires-clause-message g c =
    let code = c.args.self.now.code in
    clear_message (g.C.Code.model code) (g.met.C.Code.lawful code c.requires.code) c.message_len-bits.result (c.message_len-bits.ensures c.requires.code)

pub restore-requires-clause-word : goal.restore-requires-clause-word
restore-requires-clause-word g c =
    let code = c.args.self.now.code in
    clear_word (g.C.Code.model code) (g.met.C.Code.lawful code c.requires.code) c.len-cells.result (c.len-cells.ensures c.requires.code)

pub gather-requires : goal.gather-requires
gather-requires g c =
    let self = c.args.self.now in
    let mm = g.M.Medium.model self.medium.now in
    let cm = g.C.Code.model self.code in
    let passed = call_passed mm cm c.args.page c.pages.result c.message_len-bits.result c.args.payload.now (c.pages.ensures c.requires.medium) (c.message_len-bits.ensures c.requires.code) (checked_ok _ c.in_ok-check_call.ensures) in
    let fit = (payload_passed mm cm c.args.page c.args.payload.now passed).1.0 in
    let is-message = c.in_ok-harm.ensures.done.1.1.0.0.0 in
    (omega (arith, fit, is-message.0), subst (λ (x : ℕ). AllByRecursion (λ v. v < 2 ^ x) c.restore.new.message) c.requires.joins.bits is-message.1)
