use Rattle.std.proofs.Common.{ℕ, suc, ◌<◌, get_or, None}
use Rattle.chains.specs.Promises.{Estimates}
use Rattle.pile_laws.specs.Build.{labels_at}
use Rattle.pile_laws.specs.Flat.{words_in}
use Rattle.pile_laws.specs.Stages.{column}
use Rattle.piles.proofs.choices.Search.estimate_columns.Given as goal

abbrev pub invariant-loop-j : goal.invariant-loop-j
invariant-loop-j g l =
    let h = g.H.Chain.model l.self.chain.now in
    (i : ℕ) → i < l.j → Estimates h (suc l.chosen) (labels_at (words_in l.self.columns l.chosen l.words) i) (column h.breadth i l.self.word.now) (column h.breadth i l.self.marks.now) (get_or l.estimates i None)
