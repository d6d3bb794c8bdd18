use Rattle.std.proofs.Common.{◌≡◌, ℕ, ◌<◌, length, take, replicate, ◌∙◌, arith}
use Rattle.std.specs.List.{AllByRecursion}
use Rattle.std.proofs.ByRecursion.{All-take}
use Rattle.std.proofs.lemmas.List.{length-take-le}
use Rattle.codes.specs.Model.{CodeModel, Lawful}
use Rattle.codes.specs.Repeats.{all_replicate}
use Rattle.pile_laws.proofs.Recovery.{codeword_answer}
use Rattle.piles.proofs.recovery.recover_stage.Goals as goal

room_long : (m : CodeModel) → Lawful m → (k : ℕ) → k ≡ m.message_len → length (take k (replicate {A = ℕ} 4096 0)) ≡ m.message_len
room_long m law k is = length-take-le k (replicate {A = ℕ} 4096 0) (omega (arith, is, law.message_within, law.short)) ∙ is

room_bytes : (k : ℕ) → AllByRecursion (λ x. x < 256) (take k (replicate 4096 0))
room_bytes k = All-take (λ x. x < 256) k (replicate 4096 0) (all_replicate (λ x. x < 256) 4096 0 (omega arith))

pub returns-in_err-message_of : goal.returns-in_err-message_of
returns-in_err-message_of g c =
    let code = c.args.code.now in
    let s = c.requires.0 in
    let law = g.met.A.Code.lawful code s in
    let k = c.message_len.result in
    let answer = codeword_answer (g.A.Code.model code) c.args.word.now (take k (replicate 4096 0)) c.message_of.new.message c.message_of.result law c.requires.1.0 (room_long (g.A.Code.model code) law k (c.message_len.ensures s)) (room_bytes k) (c.message_of.ensures.sound s) in
    let fine = answer.0 in
    let was = c.in_err-message_of.was in
    let z : ◌≡◌ {A = ℕ} 0 1 = cc (fine, was) in
    absurd (omega (arith, z))
