use Rattle.std.proofs.Common.{arith}
use Rattle.pile_laws.proofs.Scans.{codes_many}
use Rattle.piles.proofs.pile.parameters.Goals as goal

pub count_bits-requires : goal.count_bits-requires
count_bits-requires g c =
    let h = g.H.Chain.model c.args.chain.now in
    (c.requires.1, omega (arith, codes_many g.A.Code.model c.args.codes.now h c.requires.2, (g.met.H.Chain.lawful c.args.chain.now c.requires.0).few_stages))
