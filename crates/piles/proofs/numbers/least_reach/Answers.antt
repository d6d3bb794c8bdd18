use Rattle.std.proofs.Common.{sym, subst, arith}
use Rattle.std.proofs.ByRecursion.{All-get_or}
use Rattle.words.specs.Soundness.{Sound}
use Rattle.pile_laws.proofs.Scans.{codes_many}
use Rattle.piles.proofs.numbers.least_reach.Goals as goal

pub stage_reach-requires-in-loop-i : goal.stage_reach-requires-in-loop-i
stage_reach-requires-in-loop-i g c =
    let h = g.H.Chain.model c.args.chain.now in
    let sound = subst (Sound g.A.Code.refusal) (sym c.index-codes-i.is) (All-get_or (Sound g.A.Code.refusal) c.args.codes.now c.loop-i.i c.index-codes-i.result c.loop-i-test.true c.requires.1.0) in
    (c.requires.0, (sound, (omega arith, omega (arith, codes_many g.A.Code.model c.args.codes.now h c.requires.1.1, c.loop-i-test.true))))
