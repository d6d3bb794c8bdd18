-- A product in a polynomial field is the carry-less product less a multiple of the modulus, and no other number of its width is.
-- Assumes nothing.
use Rattle.std.proofs.Common.{◌≡◌, ℕ, zero, suc, ◌+◌, ◌-◌, ◌*◌, ◌/◌, ◌%◌, ◌^◌, ◌<◌, ◌≤◌, Bool, T, ltb, ltb→lt, sym, refl, ap, ◌∙◌, subst, ap₂, pow-suc, pow_pos, arith}
use lib.Bits.{bit_xor, xor_assoc, xor_comm, xor_self, xor_zero_l, xor_zero_r, xor_lt, xor_shr}
use Rattle.field_laws.specs.Polynomials.{gate, double, times, modulus, carryless, Reduced}
use Rattle.field_laws.proofs.Everywhere.{every, at, each_width}
use Rattle.field_laws.proofs.Linear.{Additive, at_zero, swap_inner, twice_adds, gate_adds_bits}
use Rattle.field_laws.proofs.Products.{times_below}

cancel : (x y z : ℕ) → bit_xor (bit_xor x y) (bit_xor x z) ≡ bit_xor y z
cancel x y z = swap_inner x y x z ∙ ap (λ (w : ℕ). bit_xor w (bit_xor y z)) (xor_self x) ∙ xor_zero_l (bit_xor y z)

moved : (x y z : ℕ) → bit_xor x y ≡ z → x ≡ bit_xor y z
moved x y z e =
    sym (ap (bit_xor y) (sym e ∙ xor_comm x y) ∙ sym (xor_assoc y y x) ∙ ap (λ (w : ℕ). bit_xor w x) (xor_self y) ∙ xor_zero_l x)

-- with one more coefficient of b, the multiple of the modulus that is taken off has one more too
step : (m n a b d : ℕ) → bit_xor (carryless n a (b / 2)) (times m n a (b / 2)) ≡ carryless n (modulus m) d →
    (e : ℕ) × (e < 2 * d + 2) × (bit_xor (carryless (suc n) a b) (times m (suc n) a b) ≡ carryless (suc n) (modulus m) e)
unfolding carryless times double gate
step m n a b d before =
    let C : ℕ = carryless n a (b / 2) in
    let t : ℕ = times m n a (b / 2) in
    let off : ℕ = gate (2 * t / 2 ^ m) (modulus m) in
    let e : ℕ = 2 * d + 2 * t / 2 ^ m % 2 in
    let low : e % 2 ≡ 2 * t / 2 ^ m % 2 = last d (2 * t / 2 ^ m) in
    let rest : e / 2 ≡ d = others d (2 * t / 2 ^ m) in (
      e,
      omega arith,
      cancel (b % 2 * a) (2 * C) (bit_xor (2 * t) off)
          ∙ sym (xor_assoc (2 * C) (2 * t) off)
          ∙ ap (λ (x : ℕ). bit_xor x off) (sym (twice_adds C t) ∙ ap (λ (x : ℕ). 2 * x) before)
          ∙ xor_comm (2 * carryless n (modulus m) d) off
          ∙ sym (ap₂ (λ (x y : ℕ). bit_xor (x * modulus m) (2 * carryless n (modulus m) y)) low rest),
    )
  where
    last : (d g : ℕ) → (2 * d + g % 2) % 2 ≡ g % 2
    last d g = omega arith

    others : (d g : ℕ) → (2 * d + g % 2) / 2 ≡ d
    others d g = omega arith

multiple : (m n a b : ℕ) → (d : ℕ) × (d < 2 ^ n) × (bit_xor (carryless n a b) (times m n a b) ≡ carryless n (modulus m) d)
unfolding carryless times
multiple m zero a b = (0, pow_pos 0, refl)
multiple m (suc n) a b =
    let before = multiple m n a (b / 2) in
    let more = step m n a b before.0 before.2 in
    let twice = pow-suc 2 n in
    (more.0, omega arith, more.2)

pub reduced : (m a b : ℕ) → 1 ≤ m → m ≤ 8 → a < 2 ^ m → Reduced m a b (times m m a b)
reduced m a b least most h =
    let t = multiple m m a b in
    let whole : carryless m a b ≡ bit_xor (times m m a b) (carryless m (modulus m) t.0) = moved _ _ _ t.2 in
    (times_below m least most m a b h, (t.0, t.1, whole))

-- a multiple of the modulus that is not zero is no number of the field's width: antt computes each
long : ℕ → Bool
long m = every (2 ^ m - 1) λ d. ltb (2 ^ m - 1) (carryless m (modulus m) (suc d))

all_long : T (every 8 λ m. long (suc m))
unfolding long carryless
all_long = tt

carryless_adds : (n a : ℕ) → Additive (carryless n a)
unfolding carryless gate
carryless_adds zero a x y = refl
carryless_adds (suc n) a x y =
    ap₂ bit_xor (gate_adds_bits a x y)
    (ap (λ (z : ℕ). 2 * z) (ap (carryless n a) (xor_shr x y 1) ∙ carryless_adds n a (x / 2) (y / 2))
    ∙ twice_adds (carryless n a (x / 2)) (carryless n a (y / 2)))
    ∙ swap_inner (x % 2 * a) (y % 2 * a) (2 * carryless n a (x / 2)) (2 * carryless n a (y / 2))

-- a multiple of the modulus that is a number of the field's width is zero
no_short : (m : ℕ) → 1 ≤ m → m ≤ 8 → (d : ℕ) → d < 2 ^ m → carryless m (modulus m) d < 2 ^ m → d ≡ 0
unfolding long
no_short m least most zero h short = refl
no_short m least most (suc d) h short =
    let above = ltb→lt _ _ (at (2 ^ m - 1) _ (each_width long all_long m least most) d (omega arith)) in
    absurd (omega arith)

-- so a product is the one number that is reduced
pub one_reduced : (m a b p q : ℕ) → 1 ≤ m → m ≤ 8 → Reduced m a b p → Reduced m a b q → q ≡ p
one_reduced m a b p q least most rp rq =
    let d : ℕ = rp.1.0 in
    let e : ℕ = rq.1.0 in
    let M : ℕ → ℕ = carryless m (modulus m) in
    let same : bit_xor q (M e) ≡ bit_xor p (M d) = sym rq.1.2 ∙ rp.1.2 in
    let both : bit_xor q p ≡ bit_xor (M e) (M d)
    = moved (bit_xor q p) (bit_xor (M e) (M d)) 0 (sym (swap_inner q (M e) p (M d)) ∙ ap (λ (x : ℕ). bit_xor x (bit_xor p (M d))) same ∙ xor_self (bit_xor p (M d)))
    ∙ xor_zero_r (bit_xor (M e) (M d)) in
    let off : bit_xor q p ≡ M (bit_xor e d) = both ∙ sym (carryless_adds m (modulus m) e d) in
    let none : bit_xor e d ≡ 0 = no_short m least most (bit_xor e d) (xor_lt m e d rq.1.1 rp.1.1) (subst (λ (x : ℕ). x < 2 ^ m) off (xor_lt m q p rq.0 rp.0)) in
    moved q p 0 (off ∙ ap M none ∙ at_zero M (carryless_adds m (modulus m))) ∙ xor_zero_r p
