use Rattle.std.proofs.Common.{◌≡◌, length, refl, subst, arith}
use Rattle.codes.specs.Kinds.{repetition_code}
use Rattle.stage_laws.specs.Promises.{Chose}
use Rattle.stage_laws.proofs.Examples.{stage_example, example_answer}
use Rattle.stages.proofs.worked.example_choice.Goals as goal

pub returns : goal.returns
returns c =
    let code = c.in_ok-code.code in
    let made = c.in_ok-code.ensures.1 in
    let word = c.args.word.now in
    let word' = c.choose.new.word in
    let r = c.choose.result in
    let long : length word ≡ 2 = omega arith in
    let chose = subst (λ es. Chose (repetition_code code.size.width code.size.len) 8 es word word' r) c.example_estimates.ensures (c.choose.ensures.sound refl) in
    let told = example_answer code.size.width code.size.len made.0 made.1 word word' long r chose in
    record { holds = stage_example; answer = told.0; word = told.1 }
