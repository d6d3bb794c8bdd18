use Rattle.std.proofs.Common.{◌/◌, ◌<◌, eqb, get_or, ap, ◌∙◌, arith}
use Rattle.media_laws.proofs.Bits.{with_bit, bit_set}
use Rattle.media.proofs.packed.set_bit.Goals as goal

pub returns : goal.returns
returns c =
    let bytes = c.args.bytes.now in
    let old = get_or bytes (c.args.at / 8) 0 in
    let byte : old < 256 = omega arith in
    bit_set bytes c.args.at c.args.bit c.with_bit.result c.requires.0 c.requires.1 byte (c.with_bit.ensures ∙ ap (λ w. with_bit old w (eqb c.args.bit 1)) c.weight.ensures)
