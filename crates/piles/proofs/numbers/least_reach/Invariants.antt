use Rattle.std.proofs.Common.{◌≡◌, ◌+◌, map, drop}
use Rattle.pile_laws.specs.Build.{least, reach, stage_reaches}
use Rattle.piles.proofs.numbers.least_reach.Given as goal

abbrev pub invariant-loop-i : goal.invariant-loop-i
invariant-loop-i g l =
    let h = g.H.Chain.model l.chain in
    let cs = map g.A.Code.model l.codes in
    least l.reach (stage_reaches h (l.i + 1) (map g.A.Code.model (drop l.i l.codes))) ≡ reach h cs
