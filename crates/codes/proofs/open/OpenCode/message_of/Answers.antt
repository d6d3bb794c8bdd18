use Rattle.std.proofs.Common.{ℕ, List, Ok, sym, refl, subst}
use Rattle.codes.specs.Kinds.{open_code}
use Rattle.codes.specs.Promises.{Recovered}
use Rattle.codes.proofs.Working.{message_of_passes, word_fits, recovered}
use Rattle.codes.proofs.open.OpenCode.message_of.Goals as goal

pub returns-clause-sound : goal.returns-clause-sound
returns-clause-sound c =
    let size = c.args.self.now.size in
    let model = open_code size.width size.len in
    let word = c.args.word.now in
    let message = c.args.message.now in
    let none = message_of_passes model c.parameters.ensures message word c.in_ok-check_message_of.ensures in
    let fit = word_fits model message word none in
    λ _. subst (λ (m : List ℕ). Recovered model word message m (Ok tt)) (sym c.copy_from_slice.ensures.after) (recovered model word message word none fit.0 refl)
