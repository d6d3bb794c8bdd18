use Rattle.std.proofs.Common.{◌∙◌, arith, length-set}
use Rattle.recipe_piles.proofs.Answering.{stages_more}
use Rattle.recipe_piles.proofs.codes_made.make_codes.Goals as goal

pub loop-i-preserved : goal.loop-i-preserved
loop-i-preserved c =
    let codes = c.loop-i.codes in
    let i = c.loop-i.i in
    (length-set codes i c.in_ok-codes.field-0 ∙ c.loop-i.invariant.0, stages_more c.args.stages.now codes i c.in_ok-codes.field-0 (omega arith) (omega (arith, c.loop-i.invariant.0)) c.loop-i.invariant.1 c.in_ok-codes.ensures)
