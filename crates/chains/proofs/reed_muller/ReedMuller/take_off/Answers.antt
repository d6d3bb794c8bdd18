use Rattle.std.proofs.Common.{◌+◌, ◌^◌, ◌∷◌, drop, sym, ap, ◌∙◌, ap₂, arith}
use Rattle.std.proofs.lemmas.List.{drop_more, drop_all}
use Rattle.chains.specs.Bits.{bits_of}
use Rattle.chains.specs.Votes.{columns, laid}
use Rattle.chains.proofs.MullerSteps.{columns_more, laid_none}
use Rattle.chains.specs.Spelling.{length_bits}
use Rattle.chains.proofs.reed_muller.ReedMuller.take_off.Goals as goal

pub loop-t-preserved : goal.loop-t-preserved
loop-t-preserved c =
    let r = c.args.self.now.r in
    let t = c.loop-t.t in
    let bits = bits_of c.args.row.count c.args.row.bits in
    let here = columns_more r c.args.self.now.range t (omega arith) in
    let bit = drop_more bits t 0 (omega (arith, length_bits c.args.row.count c.args.row.bits)) ∙ ap (λ b. b ∷ drop (t + 1) bits) (sym (c.from.ensures ∙ c.bit_in.ensures)) in
    let both = ap₂ (λ cs bs. laid cs bs (bits_of (2 ^ r) c.loop-t.rest)) here bit in
    (c.turn-rest.ensures.small, ap (laid (drop (t + 1) (columns r)) (drop (t + 1) bits)) c.turn-rest.ensures.is ∙ sym both ∙ c.loop-t.invariant.1)

pub returns : goal.returns
returns c =
    let r = c.args.self.now.r in
    let bits = bits_of c.args.row.count c.args.row.bits in
    let none = drop_all c.loop-t.t bits (omega (arith, length_bits c.args.row.count c.args.row.bits)) in
    record {
      is = sym (laid_none (drop c.loop-t.t (columns r)) (bits_of (2 ^ r) c.loop-t.rest)) ∙ ap (λ bs. laid (drop c.loop-t.t (columns r)) bs (bits_of (2 ^ r) c.loop-t.rest)) (sym none) ∙ c.loop-t.invariant.1;
      small = c.loop-t.invariant.0;
    }
