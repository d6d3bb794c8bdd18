use Rattle.memory_laws.proofs.Single.{one_patrol}
use Rattle.memories.proofs.memory.Memory.patrol.Goals as goal

pub returns-clause-single : goal.returns-clause-single
returns-clause-single g c =
    let self = c.args.self.now in
    λ j. one_patrol (g.C.Code.model self.code) (g.met.C.Code.lawful self.code j.code) (g.M.Medium.model self.medium.now) (g.met.M.Medium.lawful self.medium.now j.medium) j.joins c.args.page
