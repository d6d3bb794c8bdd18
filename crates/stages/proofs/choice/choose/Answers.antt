use Rattle.stage_laws.proofs.Columns.{fitting}
use Rattle.stage_laws.proofs.OneChoice.{one_choice}
use Rattle.stages.proofs.choice.choose.Goals as goal

pub returns-clause-only : goal.returns-clause-only
returns-clause-only g c = λ sound none.
    let m = g.C.Code.model c.args.code.now in
    let es = c.args.estimates.now in
    let fits = (fitting m c.args.inner es c.args.word.now none).0 in
    one_choice m (g.met.C.Code.lawful c.args.code.now sound) c.args.inner es fits.0 fits.2
