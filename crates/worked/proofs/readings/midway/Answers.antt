use Rattle.std.proofs.Common.{refl}
use Rattle.worked.proofs.Once.{midway_once}
use Rattle.worked.proofs.readings.midway.Goals as goal

pub returns : goal.returns
returns c = midway_once c.in_ok-chain.chain.r c.in_ok-chain.ensures.0 c.only_estimate.result (c.only_estimate.ensures.determined refl)
