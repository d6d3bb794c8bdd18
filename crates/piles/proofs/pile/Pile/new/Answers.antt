use Rattle.std.proofs.Common.{◌≤◌, length, arith, rules}
use Rattle.words.proofs.Rises.{checked_ok}
use Rattle.pile_laws.proofs.Scans.{codes_many}
use Rattle.piles.specs.FromRefusal.{sound_parts}
use Rattle.piles.proofs.pile.Pile.new.Goals as goal

pub whole_as_front-copy_from_slice : goal.whole_as_front-copy_from_slice
whole_as_front-copy_from_slice g c =
    let s = sound_parts g.H.Chain g.A.Code c.args.chain c.args.codes.now (checked_ok _ c.in_ok-check_parts.ensures) in
    let h = g.H.Chain.model c.args.chain in
    let few : length c.args.codes.now ≤ 5 = omega (arith, codes_many g.A.Code.model c.args.codes.now h s.2, (g.met.H.Chain.lawful c.args.chain s.0).few_stages) in
    search rules

pub returns-clause-sound : goal.returns-clause-sound
returns-clause-sound g c = sound_parts g.H.Chain g.A.Code c.args.chain c.args.codes.now (checked_ok _ c.in_ok-check_parts.ensures)
