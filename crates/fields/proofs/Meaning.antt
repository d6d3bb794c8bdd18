-- What the sums and products of an extension are in the words of the field below. Assumes nothing.
use Rattle.std.proofs.Common.{◌≡◌, ℕ, ◌+◌, ◌*◌, ◌<◌, None, Ok, Option, Result, ap, ◌∙◌, subst, arith, pow_mono, pow_pos}
use Rattle.std.proofs.lemmas.Nat.{pow_below}
use Rattle.words.specs.declared.fault.Fault.{Fault}
use Rattle.field_laws.specs.Fields.{FieldModel, FieldLaws, size}
use Rattle.field_laws.specs.Extensions.{extension}
use Rattle.field_laws.proofs.Pairs.{number_below}
use Rattle.field_laws.proofs.Subfield.{sum_below, sum_joined, product_below, product_root, root_squared}
use Rattle.fields.specs.Answers.{Multiplies, Sums}
use Rattle.fields.specs.Extending.{SoundExtension, MultipliesBelow, MultipliesRoot, SquaresRoot, SumsBelow, SumsParts}
use Rattle.fields.proofs.Refusing.{both_above}
use Rattle.fields.proofs.Steps.{ok_two}

module _ (due : Option Fault) (f : FieldModel) (lawful : due ≡ None → FieldLaws f) (c a b : ℕ) (r : Result ℕ Fault) where
  abbrev E : FieldModel
  E = extension f c

  abbrev S : Type 0
  S = SoundExtension due f c

  laws : S → FieldLaws f
  laws s = lawful (both_above f c due s).0

  wide : (x : ℕ) → x < size f → x < size E
  wide x h = omega (arith, h, pow_mono {i = f.width} {j = 2 * f.width} (omega arith))

  -- q·x is a number of the extension, and so is q
  wide_multiple : (x y : ℕ) → x < size f → y ≡ size f * x → y < size E
  wide_multiple x y h e =
      let zero : 0 + size f * x ≡ y = by (size f * x) e in
      subst (λ (n : ℕ). n < size E) zero (number_below f c ((0, pow_pos f.width), (x, h)))
    where
      by : (n : ℕ) → y ≡ n → 0 + n ≡ y
      by n e = omega arith

  wide_root : FieldLaws f → (y : ℕ) → y ≡ size f → y < size E
  wide_root laws y e = wide_multiple 1 y (pow_below 0 f.width laws.width_least) (e ∙ once (size f))
    where
      once : (q : ℕ) → q ≡ q * 1
      once q = omega arith

  pub sums_below : Sums S E a b r → S → SumsBelow f a b r
  sums_below told s ha hb =
      told s ∙ ok_two (size E) a b (E.sum a b) (wide a ha) (wide b hb) ∙ ap Ok (sum_below f (laws s) c a b ha hb)

  pub sums_parts : Sums S E a b r → S → SumsParts f a b r
  sums_parts told s ha x hx e =
      told s ∙ ok_two (size E) a b (E.sum a b) (wide a ha) (wide_multiple x b hx e)
      ∙ ap Ok (ap (E.sum a) e ∙ sum_joined f (laws s) c a x ha hx)

  pub multiplies_below : Multiplies S E a b r → S → MultipliesBelow f a b r
  multiplies_below told s ha hb =
      told s ∙ ok_two (size E) a b (E.product a b) (wide a ha) (wide b hb)
      ∙ ap Ok (product_below f (laws s) c a b (both_above f c due s).1.element ha hb)

  pub multiplies_root : Multiplies S E a b r → S → MultipliesRoot f a b r
  multiplies_root told s ha e =
      told s ∙ ok_two (size E) a b (E.product a b) (wide a ha) (wide_root (laws s) b e)
      ∙ ap Ok (ap (E.product a) e ∙ product_root f (laws s) c a (both_above f c due s).1.element ha)

  pub squares_root : Multiplies S E a b r → S → SquaresRoot f c a b r
  squares_root told s ea eb =
      told s ∙ ok_two (size E) a b (E.product a b) (wide_root (laws s) a ea) (wide_root (laws s) b eb)
      ∙ ap Ok (ap (λ (x : ℕ). E.product x b) ea ∙ ap (E.product (size f)) eb ∙ root_squared f (laws s) c (both_above f c due s).1.element)
