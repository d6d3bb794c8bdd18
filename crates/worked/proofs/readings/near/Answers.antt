use Rattle.std.proofs.Common.{refl}
use Rattle.worked.proofs.Once.{near_once}
use Rattle.worked.proofs.readings.near.Goals as goal

pub returns : goal.returns
returns c = near_once c.in_ok-chain.chain.r c.in_ok-chain.ensures.0 c.only_estimate.result (c.only_estimate.ensures.determined refl)
