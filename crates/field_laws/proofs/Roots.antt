-- Which elements of small polynomial fields extend them: each is tried by computing. Assumes nothing.
use Rattle.std.proofs.Common.{ℕ, Bool, true, false, not, T, eqb, refl, subst, lit<, lit≤}
use lib.Dec.{eqb_refl}
use Rattle.field_laws.specs.Fields.{FieldModel, size}
use Rattle.field_laws.specs.Polynomials.{polynomial, times, double, gate}
use Rattle.field_laws.specs.Extensions.{Extends, Rootless}
use Rattle.field_laws.proofs.Everywhere.{every, at}

refuted : (b : Bool) → T (not b) → T b → ⊥
refuted true n t = n
refuted false n t = t

pub rootless_by : (f : FieldModel) (c : ℕ) → T (every (size f) λ e. not (eqb (f.sum (f.product e e) e) c)) → Rootless f c
rootless_by f c t e h same =
    refuted (eqb (f.sum (f.product e e) e) c) (at (size f) (λ e. not (eqb (f.sum (f.product e e) e) c)) t e h)
    (subst (λ (x : ℕ). T (eqb (f.sum (f.product e e) e) x)) same (eqb_refl (f.sum (f.product e e) e)))

pub extends_2 : Extends (polynomial 1) 1
unfolding times double gate
extends_2 = record { narrow = lit≤ tt; element = lit< tt; rootless = rootless_by (polynomial 1) 1 tt }

pub extends_4 : Extends (polynomial 2) 2
unfolding times double gate
extends_4 = record { narrow = lit≤ tt; element = lit< tt; rootless = rootless_by (polynomial 2) 2 tt }

pub extends_6 : Extends (polynomial 3) 1
unfolding times double gate
extends_6 = record { narrow = lit≤ tt; element = lit< tt; rootless = rootless_by (polynomial 3) 1 tt }

pub extends_8 : Extends (polynomial 4) 8
unfolding times double gate
extends_8 = record { narrow = lit≤ tt; element = lit< tt; rootless = rootless_by (polynomial 4) 8 tt }

-- 6·6 + 6 = 1
pub not_by_one : Extends (polynomial 4) 1 → ⊥
unfolding times double gate
not_by_one extends = extends.rootless 6 (lit< tt) refl
