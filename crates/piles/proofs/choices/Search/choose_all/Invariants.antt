use Rattle.std.proofs.Common.{map}
use Rattle.pile_laws.specs.Flat.{words_in}
use Rattle.pile_laws.specs.Stages.{Choices}
use Rattle.piles.proofs.choices.Search.choose_all.Given as goal

abbrev pub invariant-loop-chosen : goal.invariant-loop-chosen
invariant-loop-chosen g l = Choices (g.H.Chain.model l.self.chain.now) (map g.A.Code.model l.self.codes.now) l.self.word.now l.self.marks.now (words_in l.self.columns l.chosen l.words)
