-- The numbers of an extension are pairs of elements below: a + q·b is (a, b). Assumes nothing.
use Rattle.std.proofs.Common.{◌≡◌, ℕ, ◌+◌, ◌*◌, ◌/◌, ◌%◌, ◌^◌, ◌<◌, sym, ap, ◌∙◌, subst, ap₂, mul_comm, add_comm, two-mul, pow_pos, pow-add}
use Rattle.std.proofs.lemmas.Nat.{div_below, mod_below, mul-add-lt, div-mul-add, mod-mul-add, div-add-mod'}
use Rattle.field_laws.specs.Fields.{FieldModel, size}
use Rattle.field_laws.specs.Extensions.{joined, extension}
use Rattle.field_laws.proofs.Elements.{Element, element_path}

module _ (f : FieldModel) (c : ℕ) where
  pub square_size : size (extension f c) ≡ size f * size f
  square_size = ap (λ (n : ℕ). 2 ^ n) (two-mul f.width) ∙ pow-add 2 f.width f.width

  abbrev pub Pair : Type 0
  Pair = Element f × Element f

  abbrev pub number : Pair → ℕ
  number p = joined f p.0.0 p.1.0

  pub low_below : (x : ℕ) → x % size f < size f
  low_below x = mod_below x (size f) (pow_pos f.width)

  pub high_below : (x : ℕ) → x < size (extension f c) → x / size f < size f
  high_below x h = div_below x (size f) (size f) (pow_pos f.width) (subst (λ (n : ℕ). x < n) square_size h)

  abbrev pub pair : (x : ℕ) → x < size (extension f c) → Pair
  pair x h = ((x % size f, low_below x), (x / size f, high_below x h))

  swapped : (a b : ℕ) → joined f a b ≡ b * size f + a
  swapped a b = add_comm a (size f * b) ∙ ap (λ (n : ℕ). n + a) (mul_comm (size f) b)

  pub number_below : (p : Pair) → number p < size (extension f c)
  number_below p =
      subst (λ (n : ℕ). n < size (extension f c)) (sym (swapped p.0.0 p.1.0))
      (subst (λ (n : ℕ). p.1.0 * size f + p.0.0 < n) (sym square_size) (mul-add-lt p.1.0 (size f) p.0.0 (size f) p.1.1 p.0.1))

  pub low_is : (a b : ℕ) → a < size f → joined f a b % size f ≡ a
  low_is a b h = ap (λ (n : ℕ). n % size f) (swapped a b) ∙ mod-mul-add b (size f) a h

  pub high_is : (a b : ℕ) → a < size f → joined f a b / size f ≡ b
  high_is a b h = ap (λ (n : ℕ). n / size f) (swapped a b) ∙ div-mul-add b (size f) a h

  pub pair_number : (p : Pair) (h : number p < size (extension f c)) → pair (number p) h ≡ p
  pair_number p h =
      ap₂ (λ (a b : Element f). (a, b)) (element_path f _ _ (low_is p.0.0 p.1.0 p.0.1)) (element_path f _ _ (high_is p.0.0 p.1.0 p.0.1))

  pub number_pair : (x : ℕ) (h : x < size (extension f c)) → number (pair x h) ≡ x
  number_pair x h = swapped (x % size f) (x / size f) ∙ div-add-mod' x (size f)
