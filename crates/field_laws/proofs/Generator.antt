-- The tables hold what they should: antt computes each entry once, for all widths. Assumes nothing.
use Rattle.std.proofs.Common.{◌≡◌, ℕ, zero, suc, ◌+◌, ◌-◌, ◌*◌, ◌^◌, ◌<◌, ◌≤◌, Bool, ◌&&◌, T, eqb, ltb, get_or, sym, refl, ap, ◌∙◌, subst, ap₂, add-zero, add-suc, arith, eqb→eq, ltb→lt}
use Rattle.field_laws.specs.Polynomials.{gate, double, times}
use Rattle.field_laws.proofs.Tables.{logs, antilogs}
use Rattle.std.proofs.lemmas.Nat.{pow_below}
use Rattle.field_laws.proofs.Everywhere.{every, at, both, each_width}
use Rattle.field_laws.proofs.Products.{double_below, times_one, times_double}

abbrev pub log : ℕ → ℕ → ℕ
log m a = get_or logs (2 ^ m + a) 0

abbrev pub antilog : ℕ → ℕ → ℕ
antilog m i = get_or antilogs (2 * 2 ^ m + i) 0

starts : ℕ → Bool
starts m = eqb (antilog m 0) 1 && eqb (antilog m (2 ^ m - 1)) 1

rises : ℕ → Bool
rises m = every (2 * 2 ^ m - 1) λ i. eqb (antilog m (suc i)) (double m (antilog m i))

finds : ℕ → Bool
finds m = every (2 ^ m - 1) λ a. ltb (log m (suc a)) (2 ^ m - 1) && eqb (antilog m (log m (suc a))) (suc a)

all_start : T (every 8 λ m. starts (suc m))
unfolding starts
all_start = tt

all_rise : T (every 8 λ m. rises (suc m))
unfolding rises double gate
all_rise = tt

all_find : T (every 8 λ m. finds (suc m))
unfolding finds
all_find = tt

pow_one : (m : ℕ) → 1 ≤ m → 1 < 2 ^ m
pow_one m h = pow_below 0 m h

module _ (m : ℕ) (least : 1 ≤ m) (most : m ≤ 8) where
  pub antilog_zero : antilog m 0 ≡ 1
  unfolding starts
  antilog_zero = eqb→eq _ _ (both _ _ (each_width starts all_start m least most)).0

  pub antilog_round : antilog m (2 ^ m - 1) ≡ 1
  unfolding starts
  antilog_round = eqb→eq _ _ (both _ _ (each_width starts all_start m least most)).1

  pub antilog_suc : (i : ℕ) → suc i < 2 * 2 ^ m → antilog m (suc i) ≡ double m (antilog m i)
  unfolding rises
  antilog_suc i h = eqb→eq _ _ (at (2 * 2 ^ m - 1) _ (each_width rises all_rise m least most) i (omega arith))

  pub log_below : (a : ℕ) → (a ≡ 0 → ⊥) → a < 2 ^ m → log m a < 2 ^ m - 1
  unfolding finds
  log_below zero apart h = absurd (apart refl)
  log_below (suc a) apart h = ltb→lt _ _ (both _ _ (at (2 ^ m - 1) _ (each_width finds all_find m least most) a (omega arith))).0

  pub antilog_log : (a : ℕ) → (a ≡ 0 → ⊥) → a < 2 ^ m → antilog m (log m a) ≡ a
  unfolding finds
  antilog_log zero apart h = absurd (apart refl)
  antilog_log (suc a) apart h = eqb→eq _ _ (both _ _ (at (2 ^ m - 1) _ (each_width finds all_find m least most) a (omega arith))).1

  pub antilog_below : (i : ℕ) → i < 2 * 2 ^ m → antilog m i < 2 ^ m
  antilog_below zero h = subst (λ (x : ℕ). x < 2 ^ m) (sym antilog_zero) (pow_one m least)
  antilog_below (suc i) h =
      subst (λ (x : ℕ). x < 2 ^ m) (sym (antilog_suc i h)) (double_below m least most (antilog m i) (antilog_below i (omega arith)))

  -- the exponents add up
  pub antilog_adds : (i j : ℕ) → i + j < 2 * 2 ^ m → times m m (antilog m i) (antilog m j) ≡ antilog m (i + j)
  antilog_adds i zero h =
      ap (times m m (antilog m i)) antilog_zero ∙ times_one m least most (antilog m i) (antilog_below i (omega arith))
      ∙ ap (antilog m) (sym (add-zero i))
  antilog_adds i (suc j) h =
      ap (times m m (antilog m i)) (antilog_suc j (omega arith))
      ∙ times_double m least most (antilog m i) (antilog m j) (antilog_below i (omega arith)) (antilog_below j (omega arith))
      ∙ ap (double m) (antilog_adds i j (omega arith))
      ∙ sym (antilog_suc (i + j) (omega arith)) ∙ ap (antilog m) (sym (add-suc i j))

  pub product_by_logs : (a b : ℕ) → (a ≡ 0 → ⊥) → (b ≡ 0 → ⊥) → a < 2 ^ m → b < 2 ^ m → times m m a b ≡ antilog m (log m a + log m b)
  product_by_logs a b na nb ha hb =
      let la = log_below a na ha in
      let lb = log_below b nb hb in
      ap₂ (times m m) (sym (antilog_log a na ha)) (sym (antilog_log b nb hb)) ∙ antilog_adds (log m a) (log m b) (omega arith)

  pub reciprocal_by_log : (a : ℕ) → (a ≡ 0 → ⊥) → a < 2 ^ m → times m m a (antilog m (2 ^ m - 1 - log m a)) ≡ 1
  reciprocal_by_log a na ha =
      let la = log_below a na ha in
      let whole : log m a + (2 ^ m - 1 - log m a) ≡ 2 ^ m - 1 = omega arith in
      ap (λ (x : ℕ). times m m x (antilog m (2 ^ m - 1 - log m a))) (sym (antilog_log a na ha))
      ∙ antilog_adds (log m a) (2 ^ m - 1 - log m a) (omega arith) ∙ ap (antilog m) whole ∙ antilog_round
