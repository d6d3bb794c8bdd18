-- Parts that may not fit each other, as a field below or a chain and its codes: what refuses them, and that nothing does. Assumes nothing.
use Rattle.std.specs.Prelude.{◌≡◌, Some, None, Err, Option, Result}
use Rattle.words.specs.declared.fault.Fault.{Fault}

-- a field, a chain, a code or a medium is sound where its parts give no refusal
abbrev pub Sound : {X : Type 0} → (X → Option Fault) → X → Type 0
Sound refusal x = refusal x ≡ None

-- where they give one, a call answers just that, and what it was to change stays
abbrev pub Refused : {T : Type 0} → Option Fault → Result T Fault → Type 0 → Type 0
Refused due r Stays = (f : Fault) → due ≡ Some f → (r ≡ Err f) × Stays
