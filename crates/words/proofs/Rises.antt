-- How a refusal rises through `?`, and what an answered check says. Assumes nothing.
use Rattle.std.proofs.Common.{◌≡◌, IsErrAnd, Some, None, Ok, Err, Option, Result, refl, ap, ◌∙◌}
use Rattle.std.proofs.lemmas.Result.{err_from_is_err_and}
use Rattle.words.specs.declared.fault.Fault.{Fault}
use Rattle.words.specs.Buffers.{checked}

-- what leaves by `?` is the fault that came
pub raised : {T : Type 0} (r : Result T Fault) {f : Fault} → IsErrAnd r (λ x. x ≡ f) → r ≡ Err f
raised r e = let p = err_from_is_err_and r e in p.1 ∙ ap Err p.2

pub checked_ok : (o : Option Fault) {u : Unit {0}} → Ok u ≡ checked o → o ≡ None
checked_ok None e = refl
checked_ok (Some f) e = cc

pub checked_err : (o : Option Fault) {f : Fault} → Err f ≡ checked o → o ≡ Some f
checked_err None e = cc
checked_err (Some g) e = cc
