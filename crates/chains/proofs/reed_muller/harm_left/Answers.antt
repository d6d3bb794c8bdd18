use Rattle.std.proofs.Common.{arith}
use Rattle.chains.proofs.Masks.{harm_ones}
use Rattle.chains.proofs.reed_muller.harm_left.Goals as goal

pub overflow_sub-result : goal.overflow_sub-result
overflow_sub-result c = omega (arith, harm_ones 16 c.args.rest c.args.blank c.ranges.rest.fits c.ranges.blank.fits)

pub returns : goal.returns
returns c = omega (arith, harm_ones 16 c.args.rest c.args.blank c.ranges.rest.fits c.ranges.blank.fits)
