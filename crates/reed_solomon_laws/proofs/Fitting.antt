-- The kind refuses no lengths but those that it does not take. Assumes nothing.
use Rattle.std.proofs.Common.{◌≡◌, ℕ, Bool, true, false, ◌&&◌, leb, None, Option, refl}
use Rattle.std.proofs.lemmas.Bool.{le-leb, leb-true}
use Rattle.words.specs.declared.fault.Fault.{Fault}
use Rattle.words.proofs.Passes.{none_left, none_right, passed}
use Rattle.field_laws.specs.Fields.{FieldModel, FieldLaws, size}
use Rattle.codes.specs.Model.{Lawful}
use Rattle.reed_solomon_laws.specs.Words.{InKind, kind_refusal, refusal_over, reed_solomon}
use Rattle.reed_solomon_laws.proofs.Laws.{reed_solomon_lawful}

all_true : (a b c : Bool) → (a && (b && c)) ≡ true → (a ≡ true) × (b ≡ true) × (c ≡ true)
all_true true true c e = (refl, refl, e)
all_true true false c e = (cc, cc, cc)
all_true false b c e = (cc, cc, cc)

module _ (f : FieldModel) (n k : ℕ) where
  pub none_of_kind : InKind f n k → kind_refusal f n k ≡ None
  none_of_kind kind = rw (le-leb n (size f) kind.0, le-leb 1 k kind.1, le-leb k n kind.2) refl

  pub kind_of_none : kind_refusal f n k ≡ None → InKind f n k
  kind_of_none e =
      let t = all_true _ _ _ (passed (leb n (size f) && (leb 1 k && leb k n)) _ e) in
      (leb-true _ _ t.0, leb-true _ _ t.1, leb-true _ _ t.2)

  module _ (below : Option Fault) where
    -- neither the field nor the kind refuses
    pub none_of_both : below ≡ None → InKind f n k → refusal_over below f n k ≡ None
    none_of_both s kind = rw s (none_of_kind kind)

    pub both_of_none : refusal_over below f n k ≡ None → (below ≡ None) × InKind f n k
    both_of_none e = (none_left below _ e, kind_of_none (none_right below (kind_refusal f n k) e))

    pub code_lawful : (below ≡ None → FieldLaws f) → refusal_over below f n k ≡ None → Lawful (reed_solomon f n k)
    code_lawful lawful e = let s = both_of_none e in reed_solomon_lawful f (lawful s.0) n k s.1
