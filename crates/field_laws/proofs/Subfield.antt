-- In an extension the numbers below q are the field below, q is a root y of y·y = y + c, and a + q·b is a + b·y. Assumes nothing.
use Rattle.std.proofs.Common.{◌≡◌, ℕ, ◌+◌, ◌*◌, ◌<◌, sym, refl, ap, ◌∙◌, ap₂, arith, pow_pos}
use Rattle.std.proofs.lemmas.Nat.{pow_below}
use Rattle.field_laws.specs.Fields.{FieldModel, FieldLaws, size}
use Rattle.field_laws.specs.Extensions.{joined, joined_product, extension}
use Rattle.field_laws.proofs.Pairs.{low_is, high_is}

module _ (f : FieldModel) (laws : FieldLaws f) where
  zero_below : 0 < size f
  zero_below = pow_pos f.width

  one_below : 1 < size f
  one_below = pow_below 0 f.width laws.width_least

  pub zero_sum : (a : ℕ) → a < size f → f.sum 0 a ≡ a
  zero_sum a h = laws.sum_comm 0 a zero_below h ∙ laws.sum_zero a h

  pub product_zero : (a : ℕ) → a < size f → f.product a 0 ≡ 0
  product_zero a h =
      ap (f.product a) (sym (laws.sum_zero 0 zero_below)) ∙ laws.distributes a 0 0 h zero_below zero_below
      ∙ laws.sum_self (f.product a 0) (laws.product_below a 0 h zero_below)

  pub zero_product : (a : ℕ) → a < size f → f.product 0 a ≡ 0
  zero_product a h = laws.product_comm 0 a zero_below h ∙ product_zero a h

  one_product : (a : ℕ) → a < size f → f.product 1 a ≡ a
  one_product a h = laws.product_comm 1 a one_below h ∙ laws.product_one a h

  module _ (c : ℕ) where
    -- the parts of a + q·b
    sum_parts : (a b u v : ℕ) → a < size f → u < size f → (extension f c).sum (joined f a b) (joined f u v) ≡ joined f (f.sum a u) (f.sum b v)
    sum_parts a b u v ha hu = rw (low_is f c a b ha, low_is f c u v hu, high_is f c a b ha, high_is f c u v hu) refl

    product_parts : (a b u v : ℕ) → a < size f → u < size f → (extension f c).product (joined f a b) (joined f u v) ≡ joined_product f c a b u v
    product_parts a b u v ha hu = rw (low_is f c a b ha, low_is f c u v hu, high_is f c a b ha, high_is f c u v hu) refl

    plain : (a : ℕ) → a ≡ joined f a 0
    plain a = by (size f)
      where
        by : (q : ℕ) → a ≡ a + q * 0
        by q = omega arith

    -- y is numbered q
    root : size f ≡ joined f 0 1
    root = by (size f)
      where
        by : (q : ℕ) → q ≡ 0 + q * 1
        by q = omega arith

    none : (n : ℕ) → n ≡ 0 + n
    none n = omega arith

    pub sum_below : (a b : ℕ) → a < size f → b < size f → (extension f c).sum a b ≡ f.sum a b
    sum_below a b ha hb =
        ap₂ (extension f c).sum (plain a) (plain b) ∙ sum_parts a 0 b 0 ha hb
        ∙ ap (joined f (f.sum a b)) (laws.sum_zero 0 zero_below) ∙ sym (plain (f.sum a b))

    pub sum_joined : (a b : ℕ) → a < size f → b < size f → (extension f c).sum a (size f * b) ≡ a + size f * b
    sum_joined a b ha hb =
        ap₂ (extension f c).sum (plain a) (none (size f * b)) ∙ sum_parts a 0 0 b ha zero_below
        ∙ ap₂ (joined f) (laws.sum_zero a ha) (zero_sum b hb)

    pub product_below : (a b : ℕ) → c < size f → a < size f → b < size f → (extension f c).product a b ≡ f.product a b
    product_below a b hc ha hb =
        ap₂ (extension f c).product (plain a) (plain b) ∙ product_parts a 0 b 0 ha hb
        ∙ ap₂ (joined f)
        (rw (product_zero 0 zero_below, product_zero c hc) (laws.sum_zero (f.product a b) (laws.product_below a b ha hb)))
        (rw (product_zero a ha, zero_product b hb, product_zero 0 zero_below, laws.sum_zero 0 zero_below) (laws.sum_zero 0 zero_below))
        ∙ sym (plain (f.product a b))

    pub product_root : (b : ℕ) → c < size f → b < size f → (extension f c).product b (size f) ≡ size f * b
    product_root b hc hb =
        ap₂ (extension f c).product (plain b) root ∙ product_parts b 0 0 1 hb zero_below
        ∙ ap₂ (joined f)
        (rw (product_zero b hb, zero_product 1 one_below, product_zero c hc, laws.sum_zero 0 zero_below) refl)
        (rw (laws.product_one b hb, product_zero 0 zero_below, zero_product 1 one_below, laws.sum_zero b hb) (laws.sum_zero b hb))
        ∙ sym (none (size f * b))

    pub root_squared : c < size f → (extension f c).product (size f) (size f) ≡ c + size f
    root_squared hc =
        ap₂ (extension f c).product root root ∙ product_parts 0 1 0 1 zero_below zero_below
        ∙ ap₂ (joined f)
        (rw (product_zero 0 zero_below, laws.product_one 1 one_below, laws.product_one c hc) (zero_sum c hc))
        (rw (zero_product 1 one_below, product_zero 1 one_below, laws.product_one 1 one_below, laws.sum_zero 0 zero_below) (zero_sum 1 one_below))
        ∙ by (size f)
      where
        by : (q : ℕ) → c + q * 1 ≡ c + q
        by q = omega arith
