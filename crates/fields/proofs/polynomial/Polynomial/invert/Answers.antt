use Rattle.std.proofs.Common.{ℕ, ◌-◌, ◌^◌, ◌<◌, Some, sym, ap, ◌∙◌, ap₂, arith}
use Rattle.field_laws.specs.Polynomials.{polynomial}
use Rattle.field_laws.proofs.Generator.{log, antilog, log_below, antilog_below, reciprocal_by_log}
use Rattle.field_laws.proofs.PolynomialLaws.{zero_none, reciprocal_is}
use Rattle.fields.proofs.polynomial.Polynomial.invert.Goals as goal

a_below : (c : goal.After-log) → c.log.result < 2 ^ c.args.self.now.width - 1
a_below c = rw c.log.ensures (log_below c.args.self.now.width c.args.self.now.range.0 c.args.self.now.range.1 c.args.a c.if-a-eq0.false c.requires)

pub returns-then-a-eq0 : goal.returns-then-a-eq0
returns-then-a-eq0 c =
    sym (ap (polynomial c.args.self.now.width).reciprocal c.if-a-eq0.true ∙ zero_none c.args.self.now.width c.args.self.now.range.0 c.args.self.now.range.1)

pub overflow_sub-round-2 : goal.overflow_sub-round-2
overflow_sub-round-2 c = let a = a_below c in omega arith

pub returns : goal.returns
returns c =
    let m : ℕ = c.args.self.now.width in
    let a : ℕ = c.args.a in
    let least = c.args.self.now.range.0 in
    let most = c.args.self.now.range.1 in
    let below = log_below m least most a c.if-a-eq0.false c.requires in
    let found = reciprocal_is m least most a (antilog m (2 ^ m - 1 - log m a)) c.requires
    (antilog_below m least most (2 ^ m - 1 - log m a) (omega arith)) (reciprocal_by_log m least most a c.if-a-eq0.false c.requires) in
    ap Some (c.antilog.ensures ∙ ap (antilog m) (ap₂ (λ (x y : ℕ). x - 1 - y) c.size-round.ensures c.log.ensures)) ∙ sym found
