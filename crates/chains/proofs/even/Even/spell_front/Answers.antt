use Rattle.chains.proofs.EvenBits.{front_number}
use Rattle.chains.proofs.even.Even.spell_front.Goals as goal

pub overflow_cast-result : goal.overflow_cast-result
overflow_cast-result c = record { fits = (front_number c.args.self.now.n c.args.cells.now c.requires _ _ c.args.self.now.range.1 c.from.ensures c.spell.ensures).1 }

pub returns : goal.returns
returns c = (front_number c.args.self.now.n c.args.cells.now c.requires _ _ c.args.self.now.range.1 c.from.ensures c.spell.ensures).0
