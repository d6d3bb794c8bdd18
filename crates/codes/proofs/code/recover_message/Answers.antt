use Rattle.codes.proofs.Single.{one_recovery}
use Rattle.codes.proofs.code.recover_message.Goals as goal

pub returns-clause-single : goal.returns-clause-single
returns-clause-single g c =
    λ s. one_recovery (g.C.Code.model c.args.code.now) (g.met.C.Code.lawful c.args.code.now s) c.args.word.now c.args.message.now
