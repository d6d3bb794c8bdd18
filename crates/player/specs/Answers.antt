-- How an answer or a refusal is told in one number. Assumes nothing.
use Rattle.std.specs.Prelude.{◌≡◌, ℕ, ℤ, pos, neg_ℤ, Ok, Err, IfErr, Result}
use Rattle.words.specs.declared.fault.Fault.{Fault}
use Rattle.words.specs.Faults.{number_of}

-- the answer itself, or minus the number of the refusal
abbrev pub told : Result ℕ Fault → ℤ
told (Ok n) = pos n
told (Err f) = neg_ℤ (pos (number_of f.kind))

-- a number tells a result, of which this holds
abbrev pub Tells : ℤ → (Result ℕ Fault → Type 0) → Type 0
Tells number Holds = (r : Result ℕ Fault) × (number ≡ told r) × Holds r

-- this holds of a call that is refused
abbrev pub Refused : Result ℕ Fault → Type 0 → Type 0
Refused r Holds = IfErr r (λ _. Holds)
