use Rattle.std.proofs.Common.{◌^◌, two-mul, pow_pos}
use Rattle.std.proofs.lemmas.Nat.{mod_below, shr_below}
use Rattle.fields.proofs.below.Below.split.Goals as goal

pub returns-clause-bounds : goal.returns-clause-bounds
returns-clause-bounds g c =
    let w = c.args.self.now.width in
    let x = c.args.x in
    rw c.size-q.ensures (mod_below x (2 ^ w) (pow_pos w), λ below. shr_below x w w (rw (← two-mul w) below))
