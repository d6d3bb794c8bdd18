use Rattle.words.specs.Soundness.{Sound}
use Rattle.codes.specs.Model.{Lawful}
use Rattle.piles.specs.FromRefusal.{parts_lawful}
use Rattle.piles.specs.Sound.{pile_model, pile_refusal, stages_of}
use Rattle.piles.specs.declared.pile.Pile.{Pile}
use Rattle.lives.proofs.whole.uphold.Given as given
use Rattle.lives.proofs.whole.uphold.Goals as goal

lawful : (g : given.Over) (p : Pile g.row.H.Denot g.row.A.Denot) → Sound (pile_refusal g.H.Chain g.A.Code) p → Lawful (pile_model g.H.Chain g.A.Code p)
lawful g p sound =
    parts_lawful g.H.Chain.model g.H.Chain.refusal g.A.Code.model g.A.Code.refusal g.met.H.Chain.lawful g.met.A.Code.lawful p.chain (stages_of g.H.Chain g.A.Code p) sound

pub returns-clause-apart : goal.returns-clause-apart
returns-clause-apart g c = λ sound. (lawful g c.args.pile.now sound).apart

pub returns-clause-lawful : goal.returns-clause-lawful
returns-clause-lawful g c = lawful g c.args.pile.now
