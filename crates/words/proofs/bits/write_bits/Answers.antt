use Rattle.std.proofs.Common.{length, arith}
use Rattle.std.proofs.lemmas.Grind.{same_number_lists}
use Rattle.words.specs.Bits.{bits_of}
use Rattle.words.proofs.Spelling.{length_bits}
use Rattle.words.proofs.bits.write_bits.Goals as goal

pub returns : goal.returns
returns c =
    let row = bits_of (length c.args.bits.now) c.args.number in
    same_number_lists c.loop-i.bits row (omega (arith, length_bits (length c.args.bits.now) c.args.number)) (λ k below. c.loop-i.invariant k (omega arith))
