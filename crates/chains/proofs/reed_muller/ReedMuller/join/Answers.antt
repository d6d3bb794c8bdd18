use Rattle.std.proofs.Common.{◌≡◌, ◌+◌, length, take, ap, ◌∙◌, ap₂, arith}
use Rattle.std.proofs.lemmas.List.{take_all}
use Rattle.chains.specs.Bits.{bits_of, spelled}
use Rattle.chains.specs.ReedMuller.{muller_widths, row_bits}
use Rattle.chains.specs.MullerColumns.{muller_sizes}
use Rattle.chains.proofs.MullerSteps.{stage_there, width_small, join_bits, join_count}
use Rattle.chains.specs.RowBits.{row_bits_small, length_row_most}
use Rattle.chains.specs.Spelling.{bits_spelled}
use Rattle.chains.proofs.reed_muller.ReedMuller.join.Goals as goal

pub bounds-widths-i : goal.bounds-widths-i
bounds-widths-i c = stage_there c.args.self.now.r c.args.self.now.range c.args.labels.now c.widths-widths.result.now c.loop-i.i c.widths-widths.ensures c.requires.0 c.requires.1 c.loop-i-test.true

pub overflow_shl-bits : goal.overflow_shl-bits
overflow_shl-bits c = omega (arith, width_small c.args.self.now.r c.args.self.now.range c.args.labels.now c.widths-widths.result.now c.loop-i.i c.widths-widths.ensures c.requires.0 c.requires.1 c.loop-i-test.true)

pub overflow_add-bits : goal.overflow_add-bits
overflow_add-bits c = record { fits = (join_bits c.args.self.now.r c.args.self.now.range c.args.labels.now c.widths-widths.result.now c.loop-i.i c.widths-widths.ensures c.requires.0 c.requires.1 c.loop-i-test.true c.loop-i.bits c.from.result c.loop-i.invariant.0 c.from.ensures).1 }

pub bounds-widths-i-in-loop-i : goal.bounds-widths-i-in-loop-i
bounds-widths-i-in-loop-i c = stage_there c.args.self.now.r c.args.self.now.range c.args.labels.now c.widths-widths.result.now c.loop-i.i c.widths-widths.ensures c.requires.0 c.requires.1 c.loop-i-test.true

pub overflow_add-count : goal.overflow_add-count
overflow_add-count c = record { fits = omega (arith, (join_count c.args.self.now.r c.args.self.now.range c.args.labels.now c.widths-widths.result.now c.loop-i.i c.widths-widths.ensures c.requires.0 c.requires.1 c.loop-i-test.true c.loop-i.count c.loop-i.invariant.1).1, c.from-count.ensures) }

pub loop-i-preserved : goal.loop-i-preserved
loop-i-preserved c = (
  (join_bits c.args.self.now.r c.args.self.now.range c.args.labels.now c.widths-widths.result.now c.loop-i.i c.widths-widths.ensures c.requires.0 c.requires.1 c.loop-i-test.true c.loop-i.bits c.from.result c.loop-i.invariant.0 c.from.ensures).0,
  ap (λ w. c.loop-i.count + w) c.from-count.ensures ∙ (join_count c.args.self.now.r c.args.self.now.range c.args.labels.now c.widths-widths.result.now c.loop-i.i c.widths-widths.ensures c.requires.0 c.requires.1 c.loop-i-test.true c.loop-i.count c.loop-i.invariant.1).0,
)

pub returns : goal.returns
returns c =
    let r = c.args.self.now.r in
    let ws = muller_widths r in
    let labels = c.args.labels.now in
    let sizes = muller_sizes r c.args.self.now.range in
    let whole : take c.loop-i.i labels ≡ labels = take_all c.loop-i.i labels c.loop-i-test.false in
    let bits : c.loop-i.bits ≡ spelled (row_bits ws labels) = c.loop-i.invariant.0 ∙ ap (λ xs. spelled (row_bits ws xs)) whole in
    let count : c.loop-i.count ≡ length (row_bits ws labels) = c.loop-i.invariant.1 ∙ ap (λ xs. length (row_bits ws xs)) whole in
    record {
      count = count;
      bits = ap₂ bits_of count bits ∙ bits_spelled (row_bits ws labels) (row_bits_small ws labels);
      fits = omega (arith, count, length_row_most ws labels (omega (arith, c.requires.0, sizes.stages)), sizes.bits);
    }
