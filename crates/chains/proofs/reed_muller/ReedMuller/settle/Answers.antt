use Rattle.std.proofs.Common.{◌≡◌, ◌^◌, ◌<◌, ◌≤◌, get_or, drop, sym, ap, ◌∙◌, arith, pow_mono}
use Rattle.chains.specs.Bits.{bits_of, spelled}
use Rattle.chains.specs.ReedMuller.{order}
use Rattle.chains.specs.Votes.{column, columns, elected, laid}
use Rattle.chains.specs.MullerColumns.{muller_sizes}
use Rattle.chains.proofs.MullerSteps.{laid_none, settle_short, settle_bits, settle_rest, settle_laid, settle_over, settle_whole}
use Rattle.chains.specs.Voting.{elected_small}
use Rattle.chains.proofs.reed_muller.ReedMuller.settle.Goals as goal

-- the bits so far are fewer than sixteen
short : (c : goal.After-vote-bit) → c.loop-t.bits < 32768
short c =
    let r = c.args.self.now.r in
    let n = 2 ^ r in
    let inv = c.loop-t.invariant in
    let few = (muller_sizes r c.args.self.now.range).few_cells in
    let below = settle_short r c.args.self.now.range c.args.from c.loop-t.t (bits_of n c.args.word) (bits_of n c.args.blank) inv.0 c.loop-t.bits (omega (arith, c.cells-t-end.ensures)) inv.2 in
    omega (arith, below, pow_mono {i = c.loop-t.t} {j = 15} (omega (arith, few, c.cells-t-end.ensures)))

pub overflow_mul-bits : goal.overflow_mul-bits
overflow_mul-bits c = record { fits = omega (arith, short c) }

pub overflow_add-bits : goal.overflow_add-bits
overflow_add-bits c =
    let n = 2 ^ c.args.self.now.r in
    let bit = elected_small (column c.args.self.now.r c.number.result).checks (bits_of n c.loop-t.rest) (bits_of n c.args.blank) in
    record { fits = omega (arith, short c, bit, c.vote-bit.ensures) }

pub loop-t-preserved : goal.loop-t-preserved
loop-t-preserved c =
    let r = c.args.self.now.r in
    let range = c.args.self.now.range in
    let n = 2 ^ r in
    let inv = c.loop-t.invariant in
    let t = c.loop-t.t in
    let rest = bits_of n c.loop-t.rest in
    let marks = bits_of n c.args.blank in
    let h : t < n = omega (arith, c.cells-t-end.ensures) in
    let voted : c.vote-bit.result ≡ elected (column r (get_or (order r) t 0)).checks rest marks = c.vote-bit.ensures ∙ ap (λ s. elected (column r s).checks rest marks) c.number.ensures.is in (
      omega arith,
      c.turn-rest.ensures.small,
      settle_bits r range c.args.from t (bits_of n c.args.word) marks inv.0 h rest _ c.vote-bit.result voted c.turn-rest.ensures.is inv.3 c.loop-t.bits inv.2,
      settle_rest r range c.args.from t (bits_of n c.args.word) marks inv.0 h rest _ c.vote-bit.result voted c.turn-rest.ensures.is inv.3,
      sym (settle_laid r range c.args.from t (bits_of n c.args.word) marks inv.0 h rest _ c.vote-bit.result voted c.turn-rest.ensures.is inv.3) ∙ inv.4,
    )

pub returns : goal.returns
returns c =
    let r = c.args.self.now.r in
    let range = c.args.self.now.range in
    let n = 2 ^ r in
    let inv = c.loop-t.invariant in
    let word = bits_of n c.args.word in
    let marks = bits_of n c.args.blank in
    let over : n ≤ c.loop-t.t = omega (arith, c.cells-t-end.ensures) in
    let rest = bits_of n c.loop-t.rest in
    let columns-left = drop c.loop-t.t (columns r) in
    record {
      bits = inv.2 ∙ ap spelled (settle_whole r range c.args.from c.loop-t.t word marks inv.0 over);
      rest = sym (laid_none columns-left rest) ∙ ap (λ bs. laid columns-left bs rest) (sym (settle_over r range c.args.from c.loop-t.t word marks inv.0 over)) ∙ inv.4;
      small = inv.1;
    }
