-- What the answer of a check tells, and a call whose buffers were refused. Assumes nothing.
use Rattle.std.proofs.Common.{◌≡◌, ℕ, IsOk, List, [], ◌∷◌, OnOk, Some, None, Ok, Err, Option, Result, refl, subst, sym}
use Rattle.words.specs.declared.fault.Fault.{Fault}
use Rattle.words.specs.declared.fault.Layer.TheVariants.{Code}
use Rattle.words.specs.Buffers.{checked, refusal}
use Rattle.words.proofs.Rises.{checked_ok, checked_err}
use Rattle.codes.specs.declared.checks.Parameters.{Parameters}
use Rattle.codes.specs.Model.{CodeModel}
use Rattle.codes.specs.Parameters.{parameters_of}
use Rattle.codes.specs.Promises.{Corrected, marks_of, values_below}

pub on_ok : (due : Option Fault) (P : Type 0) (r : Result (Unit {0}) Fault) → r ≡ checked due → (due ≡ None → P) → OnOk r P
on_ok due P (Ok t) e p = p (checked_ok due e)
on_ok due P (Err f) e p = tt

pub none_from_ok : (due : Option Fault) (r : Result (Unit {0}) Fault) → r ≡ checked due → IsOk r → due ≡ None
none_from_ok None r e ok = refl
none_from_ok (Some f) r e ok = let no : IsOk {T = Unit {0}} (Err f) = subst (λ (q : Result (Unit {0}) Fault). IsOk q) e ok in cc

pub ok_from_none : (due : Option Fault) (r : Result (Unit {0}) Fault) → r ≡ checked due → due ≡ None → IsOk r
ok_from_none None r e none = subst (λ (q : Result (Unit {0}) Fault). IsOk q) (sym e) refl
ok_from_none (Some f) r e none = cc

pub correct_refused : (c : CodeModel) {p : Parameters} (is : p ≡ parameters_of c) (word marks : List ℕ) (r : Result ℕ Fault) {f : Fault} → Err f ≡ checked (refusal Code (values_below p.symbols p.len word ∷ marks_of p.len marks ∷ [])) → r ≡ Err f → Corrected c word marks word r
correct_refused c {p} is word marks r {f} e was =
    let due = subst (λ (q : Parameters). refusal Code (values_below q.symbols q.len word ∷ marks_of q.len marks ∷ []) ≡ Some f) is (checked_err _ e) in
    rw due (was, refl)
