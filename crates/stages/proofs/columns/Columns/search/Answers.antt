use Rattle.std.proofs.Common.{ℕ, ◌≤◌, arith, below_more}
use Rattle.stage_laws.specs.Trials.{trial_harm}
use Rattle.stage_laws.proofs.Trials.{no_choice}
use Rattle.stages.proofs.columns.Columns.search.Goals as goal

pub trials-preserved : goal.trials-preserved
trials-preserved g c =
    let m = g.C.Code.model c.args.code.now in (
      omega arith,
      omega (arith, c.if-threshold-from.false, c.from.ensures),
      λ u chosen.
          below_more (λ (t : ℕ). 1 ≤ t → m.distance ≤ trial_harm t c.args.self.now.estimates.now (m.codeword u)) c.trials.threshold (c.trials.invariant.2 u chosen) (λ _. c.in_default.ensures u chosen),
    )

-- every threshold was tried
pub returns-then-threshold-from-clause-none : goal.returns-then-threshold-from-clause-none
returns-then-threshold-from-clause-none g c = λ _.
    let m = g.C.Code.model c.args.code.now in
    let lawful = g.met.C.Code.lawful c.args.code.now c.requires.sound in
    no_choice m lawful c.args.self.now.inner c.args.self.now.estimates.now c.requires.fits
    (λ u chosen t low high. c.trials.invariant.2 u chosen t (omega (arith, high, c.if-threshold-from.true, c.from.ensures)) low)
