use Rattle.std.proofs.Common.{◌≡◌, ◌+◌, map, drop}
use Rattle.pile_laws.specs.Fit.{unfit_from}
use Rattle.piles.proofs.fit.unfit_stage.Given as goal

-- what is left decides
abbrev pub invariant-loop-i : goal.invariant-loop-i
invariant-loop-i g l =
    let h = g.H.Chain.model l.chain in
    unfit_from h l.columns 1 (map g.A.Code.model l.codes) ≡ unfit_from h l.columns (l.i + 1) (map g.A.Code.model (drop l.i l.codes))
