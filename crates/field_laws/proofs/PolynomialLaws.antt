-- The polynomial field of each width from 1 to 8 keeps the laws. Assumes nothing.
use Rattle.std.proofs.Common.{◌≡◌, ℕ, zero, suc, ◌-◌, ◌^◌, ◌<◌, ◌≤◌, Bool, true, false, eqb, Some, None, sym, refl, ap, ◌∙◌, ⊎_elim, true≢false, arith}
use lib.Bits.{xor_lt, xor_comm, xor_assoc, xor_self, xor_zero_r}
use Rattle.std.proofs.lemmas.Nat.{pow_below}
use Rattle.std.proofs.lemmas.Bool.{eqb-true, eq-eqb, cases_Bool, cond-true, cond-false}
use Rattle.field_laws.specs.Fields.{FieldLaws}
use Rattle.field_laws.specs.Polynomials.{times, seek, polynomial}
use Rattle.field_laws.proofs.Linear.{at_zero, times_adds, times_adds_bits}
use Rattle.field_laws.proofs.Products.{times_below, times_one, times_comm, times_assoc}
use Rattle.field_laws.proofs.Generator.{log, antilog, log_below, antilog_below, reciprocal_by_log}

pub seek_none : (p : ℕ → Bool) (n : ℕ) → ((k : ℕ) → k < n → p k ≡ false) → seek p n ≡ None
unfolding seek
seek_none p zero h = refl
seek_none p (suc n) h =
    cond-false (p n) (Some n) (seek p n) (h n (omega arith)) ∙ seek_none p n (λ k lt. h k (omega arith))

-- what passes alone is found
pub seek_some : (p : ℕ → Bool) (n b : ℕ) → b < n → p b ≡ true → ((k : ℕ) → k < n → p k ≡ true → k ≡ b) → seek p n ≡ Some b
unfolding seek
seek_some p zero b below passes alone = absurd (omega arith)
seek_some p (suc n) b below passes alone =
    ⊎_elim
    (λ e. cond-true (p n) (Some n) (seek p n) e ∙ ap Some (alone n (omega arith) e))
    (λ e.
    let apart : n ≡ b → ⊥ = λ same. true≢false (sym passes ∙ ap p (sym same) ∙ e) in
    cond-false (p n) (Some n) (seek p n) e ∙ seek_some p n b (omega arith) passes (λ k lt. alone k (omega arith)))
    (cases_Bool (p n))

module _ (m : ℕ) (least : 1 ≤ m) (most : m ≤ 8) where
  -- if a·b = 1 then b is the only one
  pub times_alone : (a b x : ℕ) → a < 2 ^ m → b < 2 ^ m → x < 2 ^ m → times m m a b ≡ 1 → times m m a x ≡ 1 → x ≡ b
  times_alone a b x ha hb hx eb ex =
      let one = pow_below 0 m least in
      sym (times_one m least most x hx) ∙ ap (times m m x) (sym eb)
      ∙ sym (times_assoc m least most x a b hx ha hb)
      ∙ ap (λ (z : ℕ). times m m z b) (times_comm m least most x a hx ha ∙ ex)
      ∙ times_comm m least most 1 b one hb ∙ times_one m least most b hb

  pub reciprocal_is : (a b : ℕ) → a < 2 ^ m → b < 2 ^ m → times m m a b ≡ 1 → (polynomial m).reciprocal a ≡ Some b
  reciprocal_is a b ha hb e =
      seek_some (λ x. eqb (times m m a x) 1) (2 ^ m) b hb (eq-eqb (times m m a b) 1 e)
      (λ x hx t. times_alone a b x ha hb hx e (eqb-true (times m m a x) 1 t))

  pub times_zero : (x : ℕ) → times m m 0 x ≡ 0
  times_zero x = at_zero (λ a. times m m a x) (times_adds m m x)

  pub zero_none : (polynomial m).reciprocal 0 ≡ None
  zero_none = seek_none (λ x. eqb (times m m 0 x) 1) (2 ^ m) (λ k h. ap (λ (z : ℕ). eqb z 1) (times_zero k))

  pub polynomial_laws : FieldLaws (polynomial m)
  polynomial_laws = record {
    width_least = least;
    width_most = most;
    sum_below = xor_lt m;
    sum_comm = λ a b _ _. xor_comm a b;
    sum_assoc = λ a b c _ _ _. xor_assoc a b c;
    sum_zero = λ a _. xor_zero_r a;
    sum_self = λ a _. xor_self a;
    product_below = λ a b ha _. times_below m least most m a b ha;
    product_comm = times_comm m least most;
    product_assoc = times_assoc m least most;
    product_one = times_one m least most;
    distributes = λ a b c _ _ _. times_adds_bits m m a b c;
    none_of_zero = zero_none;
    some_of_others = λ a ha na.
        let la = log_below m least most a na ha in
        let b : ℕ = antilog m (2 ^ m - 1 - log m a) in
        let hb : b < 2 ^ m = antilog_below m least most (2 ^ m - 1 - log m a) (omega arith) in
        let e = reciprocal_by_log m least most a na ha in
        (b, hb, reciprocal_is a b ha hb e, e);
  }
