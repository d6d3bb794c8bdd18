-- What bounds a table's index, and products with zero. Assumes nothing.
use Rattle.std.proofs.Common.{◌≡◌, ℕ, ◌^◌, ◌≤◌, ap, ◌∙◌, pow_mono}
use Rattle.field_laws.specs.Polynomials.{times}
use Rattle.field_laws.proofs.Linear.{at_zero, times_adds, times_adds_bits}

pub pow_most : (m : ℕ) → m ≤ 8 → 2 ^ m ≤ 256
pow_most m h = pow_mono h

pub zero_left : (m a b : ℕ) → a ≡ 0 → times m m a b ≡ 0
zero_left m a b e = ap (λ (x : ℕ). times m m x b) e ∙ at_zero (λ x. times m m x b) (times_adds m m b)

pub zero_right : (m a b : ℕ) → b ≡ 0 → times m m a b ≡ 0
zero_right m a b e = ap (times m m a) e ∙ at_zero (times m m a) (times_adds_bits m m a)
