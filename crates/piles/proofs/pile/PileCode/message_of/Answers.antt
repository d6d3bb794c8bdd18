use Rattle.codes.proofs.Single.{one_recovery}
use Rattle.piles.specs.Sound.{pile_model}
use Rattle.piles.proofs.pile.PileCode.message_of.Goals as goal

pub returns-clause-single : goal.returns-clause-single
returns-clause-single g c =
    λ _. one_recovery (pile_model g.H.Chain g.A.Code c.args.self.now) c.in_ok-check.ensures.lawful c.args.word.now c.args.message.now
