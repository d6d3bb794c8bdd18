use Rattle.words.proofs.Rises.{checked_ok}
use Rattle.piles.specs.FromRefusal.{sound_parts}
use Rattle.piles.proofs.pile.Pile.reach.Goals as goal

pub least_reach-requires : goal.least_reach-requires
least_reach-requires g c =
    let s = sound_parts g.H.Chain g.A.Code c.args.self.now.chain c.codes-codes.result.now (checked_ok _ c.in_ok-check_parts.ensures) in
    (s.0, (s.1, s.2))
