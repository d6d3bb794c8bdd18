use Rattle.std.proofs.Common.{◌≡◌, ℕ, ◌+◌, ◌-◌, ◌/◌, ◌^◌, ◌<◌, ◌≤◌, length, get_or, ap, ◌∙◌, subst, lt_of_lt_of_le, arith, pow_mono}
use Rattle.std.proofs.lemmas.Nat.{shr_below}
use Rattle.std.proofs.ByRecursion.{All-get_or}
use Rattle.chains.specs.Model.{at_stage}
use Rattle.chains.specs.ReedMuller.{MullerRange, muller_widths}
use Rattle.chains.specs.MullerColumns.{muller_sizes}
use Rattle.chains.proofs.reed_muller.ReedMuller.first_label.Goals as goal

pub bounds-widths-stage : goal.bounds-widths-stage
bounds-widths-stage c = omega (arith, ap length c.widths.ensures, (muller_sizes c.args.self.now.r c.args.self.now.range).stages)

width : (c : goal.After-cells) → c.from-width.result ≡ at_stage (muller_widths c.args.self.now.r) c.args.stage
width c = c.from-width.ensures ∙ ap (λ ws. get_or ws (c.args.stage - 1) 0) c.widths.ensures

-- a stage's width is from 1 to 8
bounds : (r i : ℕ) → MullerRange r → 1 ≤ i → i ≤ r + 1 → (1 ≤ at_stage (muller_widths r) i) × (at_stage (muller_widths r) i ≤ 8)
bounds r i range low high =
    let sizes = muller_sizes r range in
    let there : i - 1 < length (muller_widths r) = omega (arith, sizes.stages) in
    (All-get_or (λ w. 1 ≤ w) (muller_widths r) (i - 1) 0 there sizes.some_width, All-get_or (λ w. w ≤ 8) (muller_widths r) (i - 1) 0 there sizes.few_width)

pub overflow_shr-result : goal.overflow_shr-result
overflow_shr-result c =
    let wide = bounds c.args.self.now.r c.args.stage c.args.self.now.range c.requires.0 c.requires.1.0 in
    omega (arith, width c, wide.0, c.cells.ensures, (muller_sizes c.args.self.now.r c.args.self.now.range).few_cells)

pub overflow_cast-result-2 : goal.overflow_cast-result-2
overflow_cast-result-2 c =
    let r = c.args.self.now.r in
    let w = at_stage (muller_widths r) c.args.stage in
    let k = c.cells.result - c.args.count - c.from-width.result in
    let wide = bounds r c.args.stage c.args.self.now.range c.requires.0 c.requires.1.0 in
    let sum : 2 ^ r - c.args.count ≡ w + k = omega (arith, width c, c.cells.ensures, c.requires.1.1.0) in
    let below : c.args.bits / 2 ^ k < 2 ^ w = shr_below c.args.bits w k (subst (λ (j : ℕ). c.args.bits < 2 ^ j) sum c.requires.1.1.1) in
    record { fits = lt_of_lt_of_le below (pow_mono {i = w} {j = 8} wide.1) }
