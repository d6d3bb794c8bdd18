-- The extension of any field that keeps the laws keeps them too. Assumes nothing.
use Rattle.std.proofs.Common.{◌≡◌, ℕ, ◌+◌, ◌*◌, ◌/◌, ◌%◌, ◌<◌, ◌≢◌, [], ◌∷◌, Some, sym, ap, ◌∙◌, ap₂, arith, pow_pos}
use Rattle.std.proofs.lemmas.Nat.{pow_below}
use Rattle.algebra.specs.Field.{Ring, Field}
use Rattle.algebra.specs.Ring.{◌⊕◌, ◌⊗◌, 𝟙, 𝟘}
use Rattle.algebra.proofs.Ring.{by_ring, low, high, low_assoc, high_assoc}
use Rattle.algebra.proofs.Field.{mul-zero, add-zero, other_zero, same_from_zero}
use Rattle.field_laws.specs.Fields.{FieldModel, FieldLaws, size}
use Rattle.field_laws.specs.Extensions.{Extends, joined_reciprocal, extension}
use Rattle.field_laws.proofs.Elements.{Element, element_path, ring_of, field_of}
use Rattle.field_laws.proofs.Pairs.{Pair, number, pair, number_below, pair_number, number_pair, low_is, high_is}

module _ (f : FieldModel) (laws : FieldLaws f) (c : ℕ) (extends : Extends f c) where
  abbrev R : Ring
  R = ring_of f laws

  abbrev c' : Element f
  c' = (c, extends.element)

  abbrev P : Type 0
  P = Pair f c

  abbrev plus : P → P → P
  plus p q = (R.add p.0 q.0, R.add p.1 q.1)

  abbrev times : P → P → P
  times p q = (low R.add R.mul c' p.0 p.1 q.0 q.1, high R.add R.mul p.0 p.1 q.0 q.1)

  same : {a a' b b' : Element f} → a ≡ a' → b ≡ b' → ◌≡◌ {A = P} (a, b) (a', b')
  same p q = ap₂ (λ (a b : Element f). (a, b)) p q

  plus_comm : (p q : P) → plus p q ≡ plus q p
  plus_comm p q = same (R.add_comm p.0 q.0) (R.add_comm p.1 q.1)

  plus_assoc : (p q r : P) → plus (plus p q) r ≡ plus p (plus q r)
  plus_assoc p q r = same (R.add_assoc p.0 q.0 r.0) (R.add_assoc p.1 q.1 r.1)

  times_comm : (p q : P) → times p q ≡ times q p
  times_comm p q =
      same
      (by_ring R (c' ∷ p.0 ∷ p.1 ∷ q.0 ∷ q.1 ∷ []) (λ c a b u v. (low ◌⊕◌ ◌⊗◌ c a b u v, low ◌⊕◌ ◌⊗◌ c u v a b)) tt)
      (by_ring R (p.0 ∷ p.1 ∷ q.0 ∷ q.1 ∷ []) (λ a b u v. (high ◌⊕◌ ◌⊗◌ a b u v, high ◌⊕◌ ◌⊗◌ u v a b)) tt)

  times_assoc : (p q r : P) → times (times p q) r ≡ times p (times q r)
  times_assoc p q r =
      same (low_assoc R c' p.0 p.1 q.0 q.1 r.0 r.1) (high_assoc R c' p.0 p.1 q.0 q.1 r.0 r.1)

  times_one : (p : P) → times p (R.one, R.zero) ≡ p
  times_one p =
      same
      (by_ring R (c' ∷ p.0 ∷ p.1 ∷ []) (λ c a b. (low ◌⊕◌ ◌⊗◌ c a b 𝟙 𝟘, a)) tt)
      (by_ring R (p.0 ∷ p.1 ∷ []) (λ a b. (high ◌⊕◌ ◌⊗◌ a b 𝟙 𝟘, b)) tt)

  times_plus : (p q r : P) → times p (plus q r) ≡ plus (times p q) (times p r)
  times_plus p q r =
      same
      (by_ring R (c' ∷ p.0 ∷ p.1 ∷ q.0 ∷ q.1 ∷ r.0 ∷ r.1 ∷ [])
      (λ c a b u v s t. (low ◌⊕◌ ◌⊗◌ c a b (u ⊕ s) (v ⊕ t), low ◌⊕◌ ◌⊗◌ c a b u v ⊕ low ◌⊕◌ ◌⊗◌ c a b s t)) tt)
      (by_ring R (p.0 ∷ p.1 ∷ q.0 ∷ q.1 ∷ r.0 ∷ r.1 ∷ [])
      (λ a b u v s t. (high ◌⊕◌ ◌⊗◌ a b (u ⊕ s) (v ⊕ t), high ◌⊕◌ ◌⊗◌ a b u v ⊕ high ◌⊕◌ ◌⊗◌ a b s t)) tt)

  abbrev F : Field
  F = field_of f laws

  -- ---- the norm

  abbrev norm_of : P → Element f
  norm_of p = R.add (R.mul p.0 (R.add p.0 p.1)) (R.mul c' (R.mul p.1 p.1))

  -- the pair of i·(a + b) and i·b
  abbrev over : P → Element f → P
  over p i = (R.mul i (R.add p.0 p.1), R.mul i p.1)

  times_over : (p : P) (i : Element f) → R.mul (norm_of p) i ≡ R.one → times p (over p i) ≡ (R.one, R.zero)
  times_over p i e =
      same
      (by_ring R (c' ∷ p.0 ∷ p.1 ∷ i ∷ [])
      (λ c a b i. (low ◌⊕◌ ◌⊗◌ c a b (i ⊗ (a ⊕ b)) (i ⊗ b), (a ⊗ (a ⊕ b) ⊕ c ⊗ (b ⊗ b)) ⊗ i)) tt
      ∙ e)
      (by_ring R (p.0 ∷ p.1 ∷ i ∷ []) (λ a b i. (high ◌⊕◌ ◌⊗◌ a b (i ⊗ (a ⊕ b)) (i ⊗ b), 𝟘)) tt)

  no_root : (e : Element f) → R.add (R.mul e e) e ≡ c' → ⊥
  no_root e same-c = extends.rootless e.0 e.1 (ap (λ (x : Element f). x.0) same-c)

  -- the norm over b², where e is a/b
  norm_over : (p : P) (v : Element f) → R.mul p.1 v ≡ R.one → norm_of p ≡ R.zero → ⊥
  norm_over p v unit none =
      let e : Element f = R.mul p.0 v in
      let whole : R.mul (R.mul v v) (norm_of p) ≡ R.add (R.add (R.mul e e) (R.mul e (R.mul p.1 v))) (R.mul c' (R.mul (R.mul p.1 v) (R.mul p.1 v)))
      = by_ring R (c' ∷ p.0 ∷ p.1 ∷ v ∷ [])
      (λ c a b v. (v ⊗ v ⊗ (a ⊗ (a ⊕ b) ⊕ c ⊗ (b ⊗ b)), a ⊗ v ⊗ (a ⊗ v) ⊕ a ⊗ v ⊗ (b ⊗ v) ⊕ c ⊗ (b ⊗ v ⊗ (b ⊗ v)))) tt in
      let ones : R.add (R.add (R.mul e e) (R.mul e (R.mul p.1 v))) (R.mul c' (R.mul (R.mul p.1 v) (R.mul p.1 v))) ≡ R.add (R.add (R.mul e e) e) c'
      = ap (λ (u : Element f). R.add (R.add (R.mul e e) (R.mul e u)) (R.mul c' (R.mul u u))) unit
      ∙ by_ring R (c' ∷ e ∷ []) (λ c e. (e ⊗ e ⊕ e ⊗ 𝟙 ⊕ c ⊗ (𝟙 ⊗ 𝟙), e ⊗ e ⊕ e ⊕ c)) tt in
      let gone : R.add (R.add (R.mul e e) e) c' ≡ R.zero = sym ones ∙ sym whole ∙ ap (R.mul (R.mul v v)) none ∙ mul-zero R (R.mul v v) in
      no_root e (same_from_zero R (R.add (R.mul e e) e) c' gone)

  norm_plain : (p : P) → p.1 ≡ R.zero → norm_of p ≡ R.mul p.0 p.0
  norm_plain p e =
      ap (λ (b : Element f). R.add (R.mul p.0 (R.add p.0 b)) (R.mul c' (R.mul b b))) e
      ∙ by_ring R (c' ∷ p.0 ∷ []) (λ c a. (a ⊗ (a ⊕ 𝟘) ⊕ c ⊗ (𝟘 ⊗ 𝟘), a ⊗ a)) tt

  norm_apart : (p : P) → p ≢ (R.zero, R.zero) → norm_of p ≢ R.zero
  norm_apart p apart none = elim (F.same? p.1 R.zero) [ yes e ↦ plain e | no n ↦ norm_over p (F.inv p.1) (F.mul_inv p.1 n) none ]
    where
      plain : p.1 ≡ R.zero → ⊥
      plain e = elim (F.same? p.0 R.zero) [ yes d ↦ apart (same d e) | no n ↦ n (other_zero F p.0 p.0 n (sym (norm_plain p e) ∙ none)) ]

  -- ---- from pairs to numbers

  abbrev E : FieldModel
  E = extension f c

  abbrev # : P → ℕ
  # p = number f c p

  abbrev of : (x : ℕ) → x < size E → P
  of x h = pair f c x h

  back : (p : P) → of (# p) (number_below f c p) ≡ p
  back p = pair_number f c p (number_below f c p)

  zero_number : # (R.zero, R.zero) ≡ 0
  zero_number = zero_plus (size f)
    where
      zero_plus : (q : ℕ) → 0 + q * 0 ≡ 0
      zero_plus q = omega arith

  one_number : # (R.one, R.zero) ≡ 1
  one_number = one_plus (size f)
    where
      one_plus : (q : ℕ) → 1 + q * 0 ≡ 1
      one_plus q = omega arith

  of_number : (p : P) (x : ℕ) (h : x < size E) → # p ≡ x → of x h ≡ p
  of_number p x h e =
      same
      (element_path f _ _ (ap (λ (n : ℕ). n % size f) (sym e) ∙ low_is f c p.0.0 p.1.0 p.0.1))
      (element_path f _ _ (ap (λ (n : ℕ). n / size f) (sym e) ∙ high_is f c p.0.0 p.1.0 p.0.1))

  zero_below : 0 < size E
  zero_below = pow_pos E.width

  one_below : 1 < size E
  one_below = let h = laws.width_least in pow_below 0 (2 * f.width) (omega arith)

  norm_zero : norm_of (of 0 zero_below) ≡ R.zero
  norm_zero =
      ap norm_of (of_number (R.zero, R.zero) 0 zero_below zero_number)
      ∙ by_ring R (c' ∷ []) (λ c. (𝟘 ⊗ (𝟘 ⊕ 𝟘) ⊕ c ⊗ (𝟘 ⊗ 𝟘), 𝟘)) tt

  others : (x : ℕ) → x < size E → (x ≡ 0 → ⊥) → (y : ℕ) × (y < size E) × (E.reciprocal x ≡ Some y) × (E.product x y ≡ 1)
  others x hx apart =
      let p : P = of x hx in
      let n : Element f = norm_of p in
      let n-apart : n.0 ≡ 0 → ⊥
      = λ e. norm_apart p (λ none. apart (sym (number_pair f c x hx) ∙ ap # none ∙ zero_number)) (element_path f n R.zero e) in
      let t = laws.some_of_others n.0 n.1 n-apart in
      let i : Element f = (t.0, t.1) in (
        # (over p i),
        number_below f c (over p i),
        ap (joined_reciprocal f (x % size f) (x / size f)) t.2,
        ap (λ (q : P). # (times p q)) (back (over p i)) ∙ ap # (times_over p i (element_path f _ _ t.3)) ∙ one_number,
      )

  pub extension_laws : FieldLaws E
  extension_laws = record {
    width_least = let h = laws.width_least in omega arith;
    width_most = let h = extends.narrow in omega arith;
    sum_below = λ x y hx hy. number_below f c (plus (of x hx) (of y hy));
    sum_comm = λ x y hx hy. ap # (plus_comm (of x hx) (of y hy));
    sum_assoc = λ x y z hx hy hz.
        ap (λ (p : P). # (plus p (of z hz))) (back (plus (of x hx) (of y hy)))
        ∙ ap # (plus_assoc (of x hx) (of y hy) (of z hz))
        ∙ ap (λ (p : P). # (plus (of x hx) p)) (sym (back (plus (of y hy) (of z hz))));
    sum_zero = λ x hx. ap (λ (p : P). # (plus (of x hx) p)) (of_number (R.zero, R.zero) 0 zero_below zero_number)
        ∙ ap # (same (add-zero R (of x hx).0) (add-zero R (of x hx).1)) ∙ number_pair f c x hx;
    sum_self = λ x hx. ap # (same (R.add_self (of x hx).0) (R.add_self (of x hx).1)) ∙ zero_number;
    product_below = λ x y hx hy. number_below f c (times (of x hx) (of y hy));
    product_comm = λ x y hx hy. ap # (times_comm (of x hx) (of y hy));
    product_assoc = λ x y z hx hy hz.
        ap (λ (p : P). # (times p (of z hz))) (back (times (of x hx) (of y hy)))
        ∙ ap # (times_assoc (of x hx) (of y hy) (of z hz))
        ∙ ap (λ (p : P). # (times (of x hx) p)) (sym (back (times (of y hy) (of z hz))));
    product_one = λ x hx. ap (λ (p : P). # (times (of x hx) p)) (of_number (R.one, R.zero) 1 one_below one_number)
        ∙ ap # (times_one (of x hx)) ∙ number_pair f c x hx;
    distributes = λ x y z hx hy hz.
        ap (λ (p : P). # (times (of x hx) p)) (back (plus (of y hy) (of z hz)))
        ∙ ap # (times_plus (of x hx) (of y hy) (of z hz))
        ∙ ap₂ (λ (p q : P). # (plus p q)) (sym (back (times (of x hx) (of y hy)))) (sym (back (times (of x hx) (of z hz))));
    none_of_zero = ap (joined_reciprocal f (0 % size f) (0 / size f)) (ap f.reciprocal (ap (λ (e : Element f). e.0) norm_zero) ∙ laws.none_of_zero);
    some_of_others = others;
  }
