use Rattle.std.proofs.Common.{length, take, refl, sym, ap, subst, arith}
use Rattle.std.specs.List.{AllByRecursion}
use Rattle.words.specs.Soundness.{Sound}
use Rattle.pile_laws.proofs.Scans.{codes_many}
use Rattle.piles.proofs.pile.PileCode.message_len.Goals as goal

pub count_bits-requires : goal.count_bits-requires
count_bits-requires g c =
    let self = c.args.self.now in
    let s = c.in-Ok.ensures.sound.0 refl in
    let codes = take self.used self.stages in
    let h = g.H.Chain.model self.chain in
    (subst (AllByRecursion (Sound g.A.Code.refusal)) (sym c.codes.ensures) s.1, omega (arith, ap length c.codes.ensures, codes_many g.A.Code.model codes h s.2, (g.met.H.Chain.lawful self.chain s.0).few_stages))
