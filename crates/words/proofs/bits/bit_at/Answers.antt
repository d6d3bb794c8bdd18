use Rattle.std.proofs.Common.{◌%◌, ◌^◌, ◌<◌, sym, ap, pow_mono, lt_of_lt_of_le}
use Rattle.std.proofs.Math.Nat.{div-eq_of_lt}
use Rattle.words.proofs.bits.bit_at.Goals as goal

pub returns-else-weight-lt16 : goal.returns-else-weight-lt16
returns-else-weight-lt16 c =
    let small : c.args.number < 2 ^ c.args.weight = lt_of_lt_of_le c.ranges.number.fits (pow_mono {i = 16} {j = c.args.weight} c.if-weight-lt16.false) in
    sym (ap (λ x. x % 2) (div-eq_of_lt small))
