-- The extensions of recipes are lawful. Assumes nothing.
use Rattle.std.proofs.Common.{◌≡◌, ℕ, ◌*◌, ◌/◌, ◌^◌, ◌≤◌, Ok, Err, Result, sym, refl, ◌∙◌, subst, inl, inr, ⊎_elim, arith, lit≤}
use Rattle.words.specs.declared.fault.Fault.{Fault}
use Rattle.field_laws.specs.Polynomials.{polynomial, times, double, gate}
use Rattle.field_laws.specs.Extensions.{Extends, extension}
use Rattle.field_laws.proofs.PolynomialLaws.{polynomial_laws}
use Rattle.field_laws.proofs.ExtensionLaws.{extension_laws}
use Rattle.field_laws.proofs.Roots.{extends_2, extends_4, extends_6, extends_8, not_by_one}
use Rattle.fields.specs.Answers.{Makes, of_two}
use Rattle.fields.specs.Examples.{Examples}
use Rattle.fields.specs.Recipe.{RecipeConstant, RecipeWidth, RecipeExtension}
use Rattle.fields.specs.declared.extension.Extension.{Extension}
use Rattle.fields.specs.declared.polynomial.Polynomial.{Polynomial}

at_two : RecipeExtension 2 1 1
at_two = record { half_width = refl; constant = inl (refl, refl); extends = extends_2; lawful = extension_laws (polynomial 1) (polynomial_laws 1 (lit≤ tt) (lit≤ tt)) 1 extends_2 }

at_four : RecipeExtension 4 2 2
at_four = record { half_width = refl; constant = inr (inl (refl, refl)); extends = extends_4; lawful = extension_laws (polynomial 2) (polynomial_laws 2 (lit≤ tt) (lit≤ tt)) 2 extends_4 }

at_six : RecipeExtension 6 3 1
at_six = record { half_width = refl; constant = inr (inr (inl (refl, refl))); extends = extends_6; lawful = extension_laws (polynomial 3) (polynomial_laws 3 (lit≤ tt) (lit≤ tt)) 1 extends_6 }

at_eight : RecipeExtension 8 4 8
at_eight = record { half_width = refl; constant = inr (inr (inr (refl, refl))); extends = extends_8; lawful = extension_laws (polynomial 4) (polynomial_laws 4 (lit≤ tt) (lit≤ tt)) 8 extends_8 }

moved : (w h c w' c' : ℕ) → RecipeExtension w h c → h ≡ w / 2 → w' ≡ w → c' ≡ c → RecipeExtension w' (w' / 2) c'
moved w h c w' c' r e p q =
    subst (λ (x : ℕ). RecipeExtension w' (w' / 2) x) (sym q) (subst (λ (x : ℕ). RecipeExtension x (x / 2) c) (sym p) (subst (λ (x : ℕ). RecipeExtension w x c) e r))

pub recipe_extends : (w c : ℕ) → RecipeConstant w c → RecipeExtension w (w / 2) c
recipe_extends w c =
    ⊎_elim (λ t. moved 2 1 1 w c at_two refl t.0 t.1)
    (⊎_elim (λ t. moved 4 2 2 w c at_four refl t.0 t.1)
    (⊎_elim (λ t. moved 6 3 1 w c at_six refl t.0 t.1) (λ t. moved 8 4 8 w c at_eight refl t.0 t.1)))

-- what the makers make of them
pub made : (w c : ℕ) (r : Result (Extension Polynomial) Fault) → RecipeWidth w → RecipeConstant w c →
    (1 ≤ w / 2 → w / 2 ≤ 8 → Makes (Extends (polynomial (w / 2)) c) (λ (x : Extension Polynomial). (x.base.width ≡ w / 2) × (x.c ≡ c)) r) →
    Makes (RecipeWidth w) (λ (x : Extension Polynomial). RecipeExtension w x.base.width x.c) r
made w c r wide constant makes = by r (makes (omega arith) (omega arith))
  where
    by : (r : Result (Extension Polynomial) Fault) →
        Makes (Extends (polynomial (w / 2)) c) (λ (x : Extension Polynomial). (x.base.width ≡ w / 2) × (x.c ≡ c)) r →
        Makes (RecipeWidth w) (λ (x : Extension Polynomial). RecipeExtension w x.base.width x.c) r
    by (Ok x) h = (
      wide,
      subst (λ (n : ℕ). RecipeExtension w x.base.width n) (sym h.1.1)
          (subst (λ (n : ℕ). RecipeExtension w n c) (sym h.1.0) (recipe_extends w c constant)),
    )
    by (Err e) h = absurd (h.0 (recipe_extends w c constant).extends)

-- a recipe's width has one c
one_constant : (w c c' : ℕ) → RecipeConstant w c → RecipeConstant w c' → c' ≡ c
one_constant w c c' e e' =
    elim e [
      | inl t ↦ elim e' [ inl t' ↦ t'.1 ∙ sym t.1 | inr (inl t') ↦ omega arith | inr (inr (inl t')) ↦ omega arith | inr (inr (inr t')) ↦ omega arith ]
      | inr (inl t) ↦ elim e' [ inl t' ↦ omega arith | inr (inl t') ↦ t'.1 ∙ sym t.1 | inr (inr (inl t')) ↦ omega arith | inr (inr (inr t')) ↦ omega arith ]
      | inr (inr (inl t)) ↦ elim e' [ inl t' ↦ omega arith | inr (inl t') ↦ omega arith | inr (inr (inl t')) ↦ t'.1 ∙ sym t.1 | inr (inr (inr t')) ↦ omega arith ]
      | inr (inr (inr t)) ↦ elim e' [ inl t' ↦ omega arith | inr (inl t') ↦ omega arith | inr (inr (inl t')) ↦ omega arith | inr (inr (inr t')) ↦ t'.1 ∙ sym t.1 ]
    ]

-- a product in the extension that is made is one in the extension of the recipe
pub recipe_product : (w h c a b : ℕ) (r : Result ℕ Fault) → RecipeExtension w h c →
    r ≡ of_two (2 ^ (2 * h)) a b ((extension (polynomial h) c).product a b) →
    (c' : ℕ) → RecipeConstant w c' → r ≡ of_two (2 ^ w) a b ((extension (polynomial (w / 2)) c').product a b)
recipe_product w h c a b r e told c' constant =
    let half : h ≡ w / 2 = omega (arith, e.half_width) in
    subst (λ (n : ℕ). r ≡ of_two (2 ^ n) a b ((extension (polynomial (w / 2)) c').product a b)) (sym e.half_width)
    (subst (λ (m : ℕ). r ≡ of_two (2 ^ (2 * h)) a b ((extension (polynomial m) c').product a b)) half
    (subst (λ (d : ℕ). r ≡ of_two (2 ^ (2 * h)) a b ((extension (polynomial h) d).product a b)) (sym (one_constant w c c' e.constant constant)) told))

pub examples : Examples
unfolding times double gate
examples = record { three = refl; eight = refl; extended = refl; refused = not_by_one }
