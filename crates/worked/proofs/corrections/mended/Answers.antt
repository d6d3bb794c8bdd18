use Rattle.std.proofs.Common.{rules}
use Rattle.worked.proofs.Once.{mended_once}
use Rattle.worked.proofs.corrections.mended.Goals as goal

pub returns-in_err-harm : goal.returns-in_err-harm
returns-in_err-harm c =
    let told = mended_once c.in_ok-code.code c.in_ok-code.ensures c.correct.new.word c.correct.result c.correct.ensures.sound in
    search rules

pub returns : goal.returns
returns c =
    let told = mended_once c.in_ok-code.code c.in_ok-code.ensures c.correct.new.word c.correct.result c.correct.ensures.sound in
    search rules
