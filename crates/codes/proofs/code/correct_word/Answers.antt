use Rattle.codes.proofs.Nearness.{only_one_near}
use Rattle.codes.proofs.Single.{answered_exactly, one_correction}
use Rattle.codes.proofs.code.correct_word.Goals as goal

pub returns-clause-only : goal.returns-clause-only
returns-clause-only g c =
    λ s. only_one_near (g.C.Code.model c.args.code.now) (g.met.C.Code.lawful c.args.code.now s) c.args.word.now c.args.marks.now

pub returns-clause-single : goal.returns-clause-single
returns-clause-single g c =
    λ s. one_correction (g.C.Code.model c.args.code.now) (g.met.C.Code.lawful c.args.code.now s) c.args.word.now c.args.marks.now

pub returns-clause-exactly : goal.returns-clause-exactly
returns-clause-exactly g c =
    λ s. answered_exactly (g.C.Code.model c.args.code.now) (g.met.C.Code.lawful c.args.code.now s) c.args.word.now c.args.marks.now _ c.correct.result (c.correct.ensures.sound s)
