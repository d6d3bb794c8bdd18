use Rattle.std.proofs.Common.{◌≡◌, ℕ, ◌+◌, ◌-◌, ◌*◌, ◌/◌, ◌≤◌, eqb, List, length, take, drop, Option, sym, ap, ◌∙◌, arith, take_all}
use Rattle.std.specs.List.{position}
use Rattle.std.proofs.lemmas.List.{length-drop}
use Rattle.memory_laws.proofs.Gathering.{spare_set, spare_unset}
use Rattle.memories.proofs.bits.check_spare.Goals as goal

tail : (message : List ℕ) (used : ℕ) {r s : Option ℕ} → r ≡ position (λ b. eqb b 1) (take (length message - used) (drop used message)) → r ≡ s → position (λ b. eqb b 1) (drop used message) ≡ s
tail message used found is =
    let whole : length (drop used message) ≤ length message - used = omega (arith, length-drop used message) in
    sym (found ∙ ap (position (λ b. eqb b 1)) (take_all (length message - used) (drop used message) whole)) ∙ is

pub returns-in-Some : goal.returns-in-Some
returns-in-Some c =
    let message = c.args.message.now in
    let used = 8 * (length message / 8) in
    (used + c.in-Some.spare, c.new.ensures, spare_set message c.in-Some.spare c.requires (tail message used c.first_one.ensures c.in-Some.is))

pub returns-in-None : goal.returns-in-None
returns-in-None c =
    let message = c.args.message.now in
    spare_unset message c.requires (tail message (8 * (length message / 8)) c.first_one.ensures c.in-None.is)
