use Rattle.std.proofs.Common.{◌+◌, ◌-◌, ◌^◌, ◌<◌, sym, ap, ◌∙◌, ap₂, ⊎_elim, arith}
use Rattle.field_laws.proofs.Generator.{antilog, log_below, product_by_logs}
use Rattle.field_laws.proofs.Widths.{pow_most, zero_left, zero_right}
use Rattle.fields.proofs.polynomial.Polynomial.multiply.Goals as goal

-- both logs stay below one round
a_below : (c : goal.After-log-2) → c.log.result < 2 ^ c.args.self.now.width - 1
a_below c = rw c.log.ensures (log_below c.args.self.now.width c.args.self.now.range.0 c.args.self.now.range.1 c.args.a c.if-a-eq0.false c.requires.0)

b_below : (c : goal.After-log-2) → c.log-2.result < 2 ^ c.args.self.now.width - 1
b_below c = rw c.log-2.ensures (log_below c.args.self.now.width c.args.self.now.range.0 c.args.self.now.range.1 c.args.b c.if-b-eq0.false c.requires.1)

pub returns-then-a-eq0 : goal.returns-then-a-eq0
returns-then-a-eq0 c =
    sym (⊎_elim (zero_left c.args.self.now.width c.args.a c.args.b) (λ h. zero_right c.args.self.now.width c.args.a c.args.b h.1) c.then-a-eq0.either)

pub overflow_add-log : goal.overflow_add-log
overflow_add-log c = let a = a_below c in let b = b_below c in let top = pow_most c.args.self.now.width c.args.self.now.range.1 in record { fits = omega arith }

pub antilog-requires : goal.antilog-requires
antilog-requires c = let a = a_below c in let b = b_below c in omega arith

pub returns : goal.returns
returns c =
    c.antilog.ensures ∙ ap (antilog c.args.self.now.width) (ap₂ ◌+◌ c.log.ensures c.log-2.ensures)
    ∙ sym (product_by_logs c.args.self.now.width c.args.self.now.range.0 c.args.self.now.range.1 c.args.a c.args.b c.if-a-eq0.false c.if-b-eq0.false c.requires.0 c.requires.1)
