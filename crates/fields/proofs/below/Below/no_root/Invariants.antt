use Rattle.std.proofs.Common.{◌≡◌, ℕ, ◌<◌}
use Rattle.fields.proofs.below.Below.no_root.Given as goal

abbrev pub invariant-loop-e : goal.invariant-loop-e
invariant-loop-e g l = let f = g.F.Field.model l.self.field.now in (e : ℕ) → e < l.e → f.sum (f.product e e) e ≡ l.self.c → ⊥
