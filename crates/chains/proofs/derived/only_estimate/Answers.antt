use Rattle.chains.specs.FromLaw.{determined}
use Rattle.chains.proofs.derived.only_estimate.Goals as goal

pub returns-clause-determined : goal.returns-clause-determined
returns-clause-determined g c =
    let h = c.args.chain.now in
    λ s. determined (g.H.Chain.model h) (g.met.H.Chain.lawful h s) c.args.stage c.args.labels.now c.args.cells.now c.args.marks.now c.estimate.result (c.estimate.ensures.sound s)
