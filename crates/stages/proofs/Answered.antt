-- A result, by the value that it has for those who pass over its refusal. Assumes nothing.
use Rattle.std.proofs.Common.{◌≡◌, Some, None, Ok, Err, Result, refl}
use Rattle.std.specs.Result.{result_ok}

pub err_from_none : {X E : Type 0} (r : Result X E) → result_ok r ≡ None → (f : E) × (r ≡ Err f)
err_from_none (Ok x) e = cc
err_from_none (Err f) e = (f, refl)

pub ok_from_some : {X E : Type 0} (r : Result X E) (x : X) → result_ok r ≡ Some x → r ≡ Ok x
ok_from_some (Ok y) x e = cc
ok_from_some (Err f) x e = cc
