-- What the steps of an extension's arithmetic promise. Where the field below is sound and the operands are its elements, each step has
-- its value. Assumes nothing.
use Rattle.std.specs.Prelude.{◌≡◌, ℕ, ◌*◌, ◌^◌, ◌<◌, ◌≤◌, Ok, Err, Option, Result}
use Rattle.words.specs.declared.fault.Fault.{Fault}
use Rattle.field_laws.specs.Fields.{FieldModel, size}
use Rattle.field_laws.specs.Extensions.{norm, joined, extension}
use Rattle.fields.specs.Answers.{unlawful}
use Rattle.fields.specs.declared.below.Parts.{Parts}

-- the field below, its width at most 4
abbrev pub Narrow : {B : Type 0} → Type 0 → FieldModel → (B → ℕ) → Result B Fault → Type 0
Narrow Sound f width (Ok b) = (width b ≤ 4) × (Sound → width b ≡ f.width)
Narrow Sound f width (Err e) = (e ≡ unlawful) × (Sound → f.width ≤ 4 → ⊥)

-- e·e + e
abbrev pub Trace : Type 0 → FieldModel → ℕ → Result ℕ Fault → Type 0
Trace Sound f e r = Sound → e < size f → r ≡ Ok (f.sum (f.product e e) e)

abbrev pub TwoProducts : Type 0 → FieldModel → (a u b v : ℕ) → Result ℕ Fault → Type 0
TwoProducts Sound f a u b v r =
    let value : ℕ = f.sum (f.product a u) (f.product b v) in
    Sound → a < size f → u < size f → b < size f → v < size f → (r ≡ Ok value) × (value < size f)

abbrev pub Norm : Type 0 → FieldModel → (c a b : ℕ) → Result ℕ Fault → Type 0
Norm Sound f c a b r = Sound → c < size f → a < size f → b < size f → (r ≡ Ok (norm f c a b)) × (norm f c a b < size f)

-- the parts of (a + b·y)·(u + v·y)
abbrev pub ProductParts : Type 0 → FieldModel → (c a b u v : ℕ) → Result Parts Fault → Type 0
ProductParts Sound f c a b u v r =
    Sound → c < size f → a < size f → b < size f → u < size f → v < size f → r ≡ Ok (record {
      low = f.sum (f.product a u) (f.product c (f.product b v));
      high = f.sum (f.sum (f.product a v) (f.product b u)) (f.product b v);
    })

-- the parts of i·((a + b) + b·y)
abbrev pub ScaledParts : Type 0 → FieldModel → (i a b : ℕ) → Result Parts Fault → Type 0
ScaledParts Sound f i a b r =
    Sound → i < size f → a < size f → b < size f → r ≡ Ok (record { low = f.product i (f.sum a b); high = f.product i b })

abbrev pub Scaled : Type 0 → FieldModel → (i w a b : ℕ) → Result ℕ Fault → Type 0
Scaled Sound f i w a b r =
    Sound → w ≡ f.width → i < size f → a < size f → b < size f → r ≡ Ok (joined f (f.product i (f.sum a b)) (f.product i b))

-- the operations on numbers of the extension, over a field of width w
abbrev pub SumOf : Type 0 → FieldModel → (w a b : ℕ) → Result ℕ Fault → Type 0
SumOf Sound f w a b r = Sound → w ≡ f.width → a < 2 ^ (2 * w) → b < 2 ^ (2 * w) → r ≡ Ok ((extension f 0).sum a b)

abbrev pub ProductOf : Type 0 → FieldModel → (c w a b : ℕ) → Result ℕ Fault → Type 0
ProductOf Sound f c w a b r =
    Sound → c < size f → w ≡ f.width → a < 2 ^ (2 * w) → b < 2 ^ (2 * w) → r ≡ Ok ((extension f c).product a b)

abbrev pub InverseOf : Type 0 → FieldModel → (c w a : ℕ) → Result (Option ℕ) Fault → Type 0
InverseOf Sound f c w a r = Sound → c < size f → w ≡ f.width → a < 2 ^ (2 * w) → r ≡ Ok ((extension f c).reciprocal a)
