-- What the calls of a field answer, refusals included. Assumes nothing.
use Rattle.std.specs.Prelude.{◌≡◌, ℕ, cond, Some, None, Ok, Err, Option, Result, nat_lt}
use Rattle.std.proofs.lemmas.Option.{none-some}
use Rattle.words.specs.declared.fault.Fault.{Fault}
use Rattle.words.specs.declared.fault.Kind.TheVariants.{TooLarge, UnlawfulField}
use Rattle.words.specs.declared.fault.Layer.TheVariants.{Field}
use Rattle.words.specs.Faults.{fault}
use Rattle.field_laws.specs.Fields.{FieldModel, size}

-- an operand that is no element, by its index
abbrev pub too_large : ℕ → Fault
too_large place = fault TooLarge Field place

-- no lawful field
abbrev pub unlawful : Fault
unlawful = fault UnlawfulField Field 0

-- what is refused by no fault is refused by just that one
pub never_refused : (e : Fault) → None ≡ Some e → e ≡ unlawful
never_refused e due = absurd (none-some e due)

-- Ok exactly where the fact holds, else 13
abbrev pub Checks : Type 0 → Result (Unit {0}) Fault → Type 0
Checks Sound (Ok _) = Sound
Checks Sound (Err e) = (Sound → ⊥) × (e ≡ unlawful)

-- Ok exactly where the fact holds, with a value as it should be, else 13
abbrev pub Makes : {A : Type 0} → Type 0 → (A → Type 0) → Result A Fault → Type 0
Makes Sound Right (Ok x) = Sound × Right x
Makes Sound Right (Err e) = (Sound → ⊥) × (e ≡ unlawful)

-- the answer to one operand among q elements
abbrev pub of_one : {A : Type 0} → ℕ → ℕ → A → Result A Fault
of_one q a value = cond (nat_lt a q) (Ok value) (Err (too_large 0))

-- the answer to two operands among q elements, of which operand 0 is looked at first
abbrev pub of_two : {A : Type 0} → ℕ → ℕ → ℕ → A → Result A Fault
of_two q a b value = cond (nat_lt a q) (cond (nat_lt b q) (Ok value) (Err (too_large 1))) (Err (too_large 0))

-- a sound field's own answers
abbrev pub Sums : Type 0 → FieldModel → ℕ → ℕ → Result ℕ Fault → Type 0
Sums Sound f a b r = Sound → r ≡ of_two (size f) a b (f.sum a b)

abbrev pub Multiplies : Type 0 → FieldModel → ℕ → ℕ → Result ℕ Fault → Type 0
Multiplies Sound f a b r = Sound → r ≡ of_two (size f) a b (f.product a b)

abbrev pub Inverts : Type 0 → FieldModel → ℕ → Result (Option ℕ) Fault → Type 0
Inverts Sound f a r = Sound → r ≡ of_one (size f) a (f.reciprocal a)
