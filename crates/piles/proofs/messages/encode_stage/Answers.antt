use Rattle.std.proofs.Common.{◌≡◌, ℕ, ◌<◌, ◌≤◌, replicate, sym, ap, ◌∙◌, subst, ap₂, arith, rules}
use Rattle.std.specs.List.{AllByRecursion}
use Rattle.std.proofs.ByRecursion.{All-from_get_or}
use Rattle.std.proofs.lemmas.List.{length-take-le}
use Rattle.codes.specs.Model.{Message}
use Rattle.pile_laws.specs.Build.{symbols}
use Rattle.pile_laws.proofs.Calls.{encoded_answer}
use Rattle.pile_laws.proofs.Messages.{length_symbols, small_symbols}
use Rattle.piles.proofs.messages.encode_stage.Goals as goal

pub returns : goal.returns
returns g c =
    let m = g.A.Code.model c.args.code.now in
    let s = c.requires.0 in
    let law = g.met.A.Code.lawful c.args.code.now s in
    let bits = c.args.bits.now in
    let word = c.args.word.now in
    let read = c.read_symbols.new.symbols in
    let many = c.message_len.ensures s in
    let few : c.message_len.result ≤ 4096 = omega (arith, many, law.message_within, law.short) in
    let long = length-take-le c.message_len.result (replicate 4096 0) few ∙ many in
    let is : read ≡ symbols m.width m.message_len bits = c.read_symbols.ensures ∙ ap₂ (λ (w k : ℕ). symbols w k bits) (c.width.ensures s) long in
    let message : Message m read = subst (Message m) (sym is) (length_symbols m.width m.message_len bits, small_symbols m.width m.message_len bits (omega (arith, c.requires.1.0)) c.requires.1.1.0) in
    let bytes : AllByRecursion (λ x. x < 256) word = All-from_get_or (λ x. x < 256) word 0 (λ i l. search rules) in
    let answer = encoded_answer m read word c.encode.new.word c.encode.result message c.requires.1.1.1 bytes (c.encode.ensures.sound s) in
    rw answer.0 (answer.1 ∙ ap m.codeword is)
