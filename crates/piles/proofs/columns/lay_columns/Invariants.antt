use Rattle.std.proofs.Common.{◌≡◌, ◌*◌, take}
use Rattle.pile_laws.specs.Build.{laid}
use Rattle.pile_laws.specs.Flat.{words_in}
use Rattle.piles.proofs.columns.lay_columns.Given as goal

-- the columns so far are laid
abbrev pub invariant-loop-j : goal.invariant-loop-j
invariant-loop-j g l =
    let h = g.H.Chain.model l.chain in
    take (h.breadth * l.j) l.cells ≡ laid h l.j (words_in l.columns h.stages l.words)
