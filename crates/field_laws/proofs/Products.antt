-- Products of the polynomial fields, of width 1 to 8. Commutativity and associativity hold on powers of two, which antt computes
-- for all widths at once, so they hold everywhere. Assumes nothing.
use Rattle.std.proofs.Common.{◌≡◌, ℕ, zero, suc, ◌/◌, ◌^◌, ◌<◌, ◌≤◌, Bool, T, eqb, ltb, refl, ap, ◌∙◌, lt_of_le_of_lt, eqb→eq, ltb→lt, pow_pos}
use lib.Bits.{xor_lt}
use Rattle.field_laws.specs.Polynomials.{gate, double, times}
use Rattle.field_laws.proofs.Everywhere.{every, at, each_width}
use Rattle.field_laws.proofs.Linear.{agree, bounded, gate_le, double_adds, times_adds, times_adds_bits}

-- on powers of two, by computing

doubles : ℕ → Bool
doubles m = every m λ i. ltb (double m (2 ^ i)) (2 ^ m)

ones : ℕ → Bool
ones m = every m λ i. eqb (times m m (2 ^ i) 1) (2 ^ i)

carries : ℕ → Bool
carries m = every m λ i. every m λ j. eqb (times m m (2 ^ i) (double m (2 ^ j))) (double m (times m m (2 ^ i) (2 ^ j)))

commutes : ℕ → Bool
commutes m = every m λ i. every m λ j. eqb (times m m (2 ^ i) (2 ^ j)) (times m m (2 ^ j) (2 ^ i))

associates : ℕ → Bool
associates m =
    every m λ i. every m λ j. every m λ k.
    eqb (times m m (times m m (2 ^ i) (2 ^ j)) (2 ^ k)) (times m m (2 ^ i) (times m m (2 ^ j) (2 ^ k)))

all_double : T (every 8 λ m. doubles (suc m))
unfolding doubles double gate
all_double = tt

all_one : T (every 8 λ m. ones (suc m))
unfolding ones times double gate
all_one = tt

all_carry : T (every 8 λ m. carries (suc m))
unfolding carries times double gate
all_carry = tt

all_commute : T (every 8 λ m. commutes (suc m))
unfolding commutes times double gate
all_commute = tt

all_associate : T (every 8 λ m. associates (suc m))
unfolding associates times double gate
all_associate = tt

module _ (m : ℕ) (least : 1 ≤ m) (most : m ≤ 8) where
  pub double_below : (a : ℕ) → a < 2 ^ m → double m a < 2 ^ m
  unfolding doubles
  double_below = bounded (double m) (double_adds m) m m (λ i h. ltb→lt _ _ (at m _ (each_width doubles all_double m least most) i h))

  pub times_below : (n a b : ℕ) → a < 2 ^ m → times m n a b < 2 ^ m
  unfolding times
  times_below zero a b h = pow_pos m
  times_below (suc n) a b h =
      xor_lt m (gate b a) (double m (times m n a (b / 2))) (lt_of_le_of_lt (gate_le b a) h)
      (double_below (times m n a (b / 2)) (times_below n a (b / 2) h))

  pub times_one : (a : ℕ) → a < 2 ^ m → times m m a 1 ≡ a
  unfolding ones
  times_one =
      agree (λ a. times m m a 1) (λ a. a) (times_adds m m 1) (λ x y. refl) m
      (λ i h. eqb→eq _ _ (at m _ (each_width ones all_one m least most) i h))

  pub times_comm : (a b : ℕ) → a < 2 ^ m → b < 2 ^ m → times m m a b ≡ times m m b a
  unfolding commutes
  times_comm a b ha hb =
      agree (λ x. times m m x b) (times m m b) (times_adds m m b) (times_adds_bits m m b) m
      (λ i h. agree (times m m (2 ^ i)) (λ y. times m m y (2 ^ i)) (times_adds_bits m m (2 ^ i)) (times_adds m m (2 ^ i)) m
      (λ j k. eqb→eq _ _ (at m _ (at m _ (each_width commutes all_commute m least most) i h) j k)) b hb)
      a ha

  pub times_double : (a b : ℕ) → a < 2 ^ m → b < 2 ^ m → times m m a (double m b) ≡ double m (times m m a b)
  unfolding carries
  times_double a b ha hb =
      agree (λ x. times m m x (double m b)) (λ x. double m (times m m x b)) (times_adds m m (double m b))
      (λ x y. ap (double m) (times_adds m m b x y) ∙ double_adds m (times m m x b) (times m m y b)) m
      (λ i h. agree (λ y. times m m (2 ^ i) (double m y)) (λ y. double m (times m m (2 ^ i) y))
      (λ x y. ap (times m m (2 ^ i)) (double_adds m x y) ∙ times_adds_bits m m (2 ^ i) (double m x) (double m y))
      (λ x y. ap (double m) (times_adds_bits m m (2 ^ i) x y) ∙ double_adds m (times m m (2 ^ i) x) (times m m (2 ^ i) y)) m
      (λ j k. eqb→eq _ _ (at m _ (at m _ (each_width carries all_carry m least most) i h) j k)) b hb)
      a ha

  -- the product of a product is additive in each of the three
  pub times_assoc : (a b c : ℕ) → a < 2 ^ m → b < 2 ^ m → c < 2 ^ m → times m m (times m m a b) c ≡ times m m a (times m m b c)
  unfolding associates
  times_assoc a b c ha hb hc =
      agree (λ x. times m m (times m m x b) c) (λ x. times m m x (times m m b c))
      (λ x y. ap (λ z. times m m z c) (times_adds m m b x y) ∙ times_adds m m c (times m m x b) (times m m y b))
      (times_adds m m (times m m b c)) m
      (λ i hi. agree (λ y. times m m (times m m (2 ^ i) y) c) (λ y. times m m (2 ^ i) (times m m y c))
      (λ x y. ap (λ z. times m m z c) (times_adds_bits m m (2 ^ i) x y) ∙ times_adds m m c (times m m (2 ^ i) x) (times m m (2 ^ i) y))
      (λ x y. ap (times m m (2 ^ i)) (times_adds m m c x y) ∙ times_adds_bits m m (2 ^ i) (times m m x c) (times m m y c)) m
      (λ j hj. agree (times m m (times m m (2 ^ i) (2 ^ j))) (λ z. times m m (2 ^ i) (times m m (2 ^ j) z))
      (times_adds_bits m m (times m m (2 ^ i) (2 ^ j)))
      (λ x y. ap (times m m (2 ^ i)) (times_adds_bits m m (2 ^ j) x y) ∙ times_adds_bits m m (2 ^ i) (times m m (2 ^ j) x) (times m m (2 ^ j) y)) m
      (λ k hk. eqb→eq _ _ (at m _ (at m _ (at m _ (each_width associates all_associate m least most) i hi) j hj) k hk)) c hc)
      b hb)
      a ha
