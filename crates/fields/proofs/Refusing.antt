-- An extension is refused where the field below is, or where its c does not extend that field. Assumes nothing.
use Rattle.std.proofs.Common.{◌≡◌, ℕ, cond, Bool, true, false, Some, None, Ok, Err, Option, Result, refl, ap}
use Rattle.words.specs.declared.fault.Fault.{Fault}
use Rattle.words.specs.Buffers.{checked}
use Rattle.words.proofs.Passes.{none_left, none_right, passed}
use Rattle.words.proofs.Rises.{checked_ok, checked_err}
use Rattle.field_laws.specs.Extensions.{Extends, extends}
use Rattle.field_laws.specs.Fields.{FieldModel}
use Rattle.field_laws.proofs.Extending.{extends_of, of_extends}
use Rattle.fields.specs.Answers.{Checks, unlawful}
use Rattle.fields.specs.Extending.{extension_refusal, refusal_above, SoundExtension}

module _ (f : FieldModel) (c : ℕ) where
  pub none_refused : Extends f c → extension_refusal f c ≡ None
  none_refused e = rw (of_extends f c e) refl

  pub extends_from : extension_refusal f c ≡ None → Extends f c
  extends_from s = extends_of f c (passed (extends f c) unlawful s)

  -- the test of c gives the refusal
  pub tested : (r : Result (Unit {0}) Fault) → Checks (Extends f c) r → r ≡ checked (extension_refusal f c)
  tested (Ok u) e = rw (none_refused e) refl
  tested (Err g) e = by (extends f c) (extends_of f c)
    where
      by : (t : Bool) → (t ≡ true → Extends f c) → Err g ≡ checked (cond t None (Some unlawful))
      by true extends = absurd (e.0 (extends refl))
      by false extends = ap Err e.1

  -- it is tested once the field below is sound
  pub tested_above : (below : Option Fault) (r : Result (Unit {0}) Fault) → below ≡ None → Checks (Extends f c) r →
      r ≡ checked (refusal_above below f c)
  tested_above below r s e = rw s (tested r e)

  pub sound_above : (below : Option Fault) → below ≡ None → Extends f c → SoundExtension below f c
  sound_above below s e = rw s (none_refused e)

  pub both_above : (below : Option Fault) → SoundExtension below f c → (below ≡ None) × Extends f c
  both_above below s = (none_left below _ s, extends_from (none_right below (extension_refusal f c) s))

  pub extends_above : (below : Option Fault) {u : Unit {0}} → Ok u ≡ checked (refusal_above below f c) →
      (below ≡ None) × Extends f c
  extends_above below e = both_above below (checked_ok _ e)

  pub not_both : (below : Option Fault) {g : Fault} → Err g ≡ checked (refusal_above below f c) →
      (below ≡ None) × Extends f c → ⊥
  not_both below e both = let due = checked_err _ e in let none = sound_above below both.0 both.1 in cc
