use Rattle.std.proofs.Common.{◌≡◌, ℕ, ◌^◌, ◌<◌, List, [], ◌∷◌, get_or, replicate, Ok, Err, sym, refl, ap, ◌∙◌, subst, arith}
use Rattle.std.proofs.ByRecursion.{All-get_or}
use Rattle.words.specs.declared.fault.Fault.{Fault}
use Rattle.codes.specs.Kinds.{repetition_code}
use Rattle.codes.specs.Promises.{Recovered}
use Rattle.codes.specs.Repeats.{set_single}
use Rattle.codes.proofs.Sameness.{same_throughout, other_somewhere, everywhere_first}
use Rattle.codes.proofs.Working.{message_of_passes, word_fits, recovered, unrecovered}
use Rattle.codes.proofs.repetition.RepetitionCode.message_of.Goals as goal

pub returns-then-not-repeats-clause-sound : goal.returns-then-not-repeats-clause-sound
returns-then-not-repeats-clause-sound c =
    let size = c.args.self.now.size in
    let model = repetition_code size.width size.len in
    let word = c.args.word.now in
    let message = c.args.message.now in
    let first = get_or word 0 0 in
    let none = message_of_passes model c.parameters.ensures message word c.in_ok-check_message_of.ensures in
    let fit = word_fits model message word none in
    λ _. subst (λ (f : Fault). Recovered model word message message (Err f)) (sym c.new.ensures) (unrecovered model word message none
    (λ u mu e. other_somewhere first word (sym c.repeats.ensures ∙ c.if-not-repeats.true) (everywhere_first size.len (get_or u 0 0) word e)))

pub returns-clause-sound : goal.returns-clause-sound
returns-clause-sound c =
    let size = c.args.self.now.size in
    let n = size.len in
    let model = repetition_code size.width n in
    let word = c.args.word.now in
    let message = c.args.message.now in
    let first = get_or word 0 0 in
    let none = message_of_passes model c.parameters.ensures message word c.in_ok-check_message_of.ensures in
    let fit = word_fits model message word none in
    let small = All-get_or (λ x. x < 2 ^ size.width) word 0 0 (omega (arith, fit.0.0, size.some_places)) fit.0.1 in
    let same = same_throughout first word (sym c.repeats.ensures ∙ c.if-not-repeats.false) in
    let whole : replicate n first ≡ word = ap (λ k. replicate k first) (sym fit.0.0) ∙ sym same in
    λ _. subst (λ (u : List ℕ). Recovered model word message u (Ok tt)) (sym (set_single message first fit.1)) (recovered model word message (first ∷ []) none (refl, (small, tt)) whole)
