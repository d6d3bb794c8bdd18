-- Reed-Solomon codes over a field: the values of polynomials of degree below K at the elements numbered 0 to N - 1. Assumes nothing.
use Rattle.std.specs.Prelude.{◌≡◌, ℕ, zero, suc, ◌+◌, ◌-◌, ◌≤◌, cond, ◌&&◌, List, [], ◌∷◌, map, take, Some, None, Option, nat_le, slice_index}
use Rattle.std.specs.List.{range_with_len}
use Rattle.std.specs.Option.{unwrap_or}
use Rattle.words.specs.declared.fault.Fault.{Fault}
use Rattle.words.specs.declared.fault.Kind.TheVariants.{OutsideKind}
use Rattle.words.specs.declared.fault.Layer.TheVariants.{Code}
use Rattle.words.specs.Buffers.{either}
use Rattle.words.specs.Faults.{fault}
use Rattle.field_laws.specs.Fields.{FieldModel, size}
use Rattle.codes.specs.Model.{CodeModel, Symbols}

-- a row of n numbers, made by a rule
abbrev pub row : ℕ → (ℕ → ℕ) → List ℕ
row n rule = map rule (range_with_len 0 n)

-- the value of a polynomial, given by its coefficients, the lowest first
abbrev pub value : FieldModel → List ℕ → ℕ → ℕ
value f [] z = 0
value f (c ∷ p) z = f.sum c (f.product z (value f p z))

-- the values of some polynomial of k coefficients at the first n elements
abbrev pub Codeword : FieldModel → ℕ → ℕ → List ℕ → Type 0
Codeword f n k word = (coefficients : List ℕ) × Symbols f.width k coefficients × (word ≡ row n (value f coefficients))

-- Newton's interpolation: the values of the polynomial of k coefficients that has the symbols y at the first k elements, and
-- of the product of X + x over these elements
module _ (f : FieldModel) (y : ℕ → ℕ) where
  -- the multiple of the product p that brings v to y at x
  abbrev pub correction : (v p : ℕ → ℕ) → ℕ → ℕ
  correction v p x = f.product (f.sum (y x) (v x)) (unwrap_or (f.reciprocal (p x)) 0)

  abbrev pub through : ℕ → (ℕ → ℕ) × (ℕ → ℕ)
  through zero = (λ j. 0, λ j. 1)
  through (suc k) =
      let s = through k in
      (λ j. f.sum (s.0 j) (f.product (correction s.0 s.1 k) (s.1 j)), λ j. f.product (f.sum j k) (s.1 j))

-- the message is the first K values
abbrev pub reed_solomon : FieldModel → ℕ → ℕ → CodeModel
reed_solomon f n k = record {
  width = f.width;
  len = n;
  message_len = k;
  distance = n - k + 1;
  codeword = λ u. row n (through f (λ x. slice_index u x) k).0;
  Blames = λ _ _ place. place ≡ 0;
}

-- which lengths the kind takes over a field
abbrev pub InKind : FieldModel → ℕ → ℕ → Type 0
InKind f n k = (n ≤ size f) × (1 ≤ k) × (k ≤ n)

-- and by which fault it refuses the others
abbrev pub kind_refusal : FieldModel → ℕ → ℕ → Option Fault
kind_refusal f n k = cond (nat_le n (size f) && (nat_le 1 k && nat_le k n)) None (Some (fault OutsideKind Code 0))

-- the refusal of the field comes first
abbrev pub refusal_over : Option Fault → FieldModel → ℕ → ℕ → Option Fault
refusal_over below f n k = either below (kind_refusal f n k)

-- the codeword of a message is the one codeword that begins with it
abbrev pub Systematic : FieldModel → ℕ → ℕ → Type 0
Systematic f n k =
    (u : List ℕ) → Symbols f.width k u →
    Codeword f n k ((reed_solomon f n k).codeword u)
    × (take k ((reed_solomon f n k).codeword u) ≡ u)
    × ((w : List ℕ) → Codeword f n k w → take k w ≡ u → w ≡ (reed_solomon f n k).codeword u)
