use Rattle.std.proofs.Common.{◌*◌, ◌≤◌, cond, ltb, Some, None, sym, ap, ◌∙◌, subst, mul-le-mul_right, arith}
use Rattle.codes.specs.Promises.{Corrected}
use Rattle.stage_laws.specs.Trials.{Tried}
use Rattle.stage_laws.proofs.Columns.{score_summed, score_fits}
use Rattle.stage_laws.proofs.Reach.{distance_within}
use Rattle.stage_laws.proofs.Trials.{tried_nothing, tried_candidate}
use Rattle.stages.proofs.Answered.{err_from_none, ok_from_some}
use Rattle.stages.proofs.columns.Columns.trial.Goals as goal

pub overflow_mul-limit : goal.overflow_mul-limit
overflow_mul-limit g c =
    let lawful = g.met.C.Code.lawful c.args.code.now c.requires.sound in
    let within = distance_within (g.C.Code.model c.args.code.now) lawful in
    let inner : c.from.result ≤ 255 = omega (arith, c.from.ensures) in
    record { fits = omega (arith, mul-le-mul_right c.distance.result inner, within, lawful.short, c.distance.ensures c.requires.sound) }

pub score-requires : goal.score-requires
score-requires g c =
    let lawful = g.met.C.Code.lawful c.args.code.now c.requires.sound in
    score_fits c.args.self.now.inner c.args.self.now.estimates.now _ (omega arith) (omega (arith, c.requires.fits.0, lawful.short)) c.requires.fits.2

pub returns-in_err-ok : goal.returns-in_err-ok
returns-in_err-ok g c =
    let m = g.C.Code.model c.args.code.now in
    let lawful = g.met.C.Code.lawful c.args.code.now c.requires.sound in
    let refused = err_from_none c.correct.result (sym c.ok.ensures.value ∙ c.in_err-ok.was) in
    let told = subst (Corrected m _ _ c.correct.new.word) refused.1 (c.correct.ensures.sound c.requires.sound) in
    subst (Tried m c.args.self.now.inner c.args.self.now.estimates.now c.args.threshold c.correct.new.word) (sym c.from_residual.ensures)
    (tried_nothing _ lawful c.args.self.now.inner _ c.requires.fits _ _ _ c.correct.new.word c.write_symbols.ensures c.write_marks.ensures _ told)

pub returns : goal.returns
returns g c =
    let m = g.C.Code.model c.args.code.now in
    let lawful = g.met.C.Code.lawful c.args.code.now c.requires.sound in
    let d = c.args.self.now.inner in
    let es = c.args.self.now.estimates.now in
    let found = ok_from_some c.correct.result c.in_ok-ok.field-0 (sym c.ok.ensures.value ∙ c.in_ok-ok.was) in
    let told = subst (Corrected m _ _ c.correct.new.word) found (c.correct.ensures.sound c.requires.sound) in
    let scored = c.score.ensures ∙ sym (score_summed d es c.correct.new.word) in
    let limit = ap (λ n. n * c.distance.result) c.from.ensures in
    let is = c.deciding.ensures ∙ ap (λ n. cond (ltb c.score.result n) (Some c.score.result) None) limit in
    subst (Tried m d es c.args.threshold c.correct.new.word) (sym is)
    (tried_candidate m lawful d es c.requires.fits _ _ _ c.correct.new.word c.write_symbols.ensures c.write_marks.ensures _ _ _ told scored (c.distance.ensures c.requires.sound))
