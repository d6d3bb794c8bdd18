-- What the search for the near codeword answers. Assumes nothing.
use Rattle.std.specs.Prelude.{◌≡◌, ℕ, ◌+◌, ◌-◌, ◌<◌, ◌≤◌, List, length, Result, MatchResult, ◌≢◌}
use Rattle.std.specs.List.{AllByRecursion}
use Rattle.words.specs.declared.fault.Fault.{Fault}
use Rattle.words.specs.declared.fault.Kind.TheVariants.{NoCodeword}
use Rattle.words.specs.declared.fault.Layer.TheVariants.{Code}
use Rattle.words.specs.Faults.{fault}
use Rattle.words.specs.Harm.{harm}
use Rattle.field_laws.specs.Fields.{FieldModel, size}
use Rattle.reed_solomon_laws.specs.Words.{Codeword, InKind, reed_solomon}
use Rattle.reed_solomon_laws.proofs.Arrays.{Below, Interpolated}

-- a word of the code's length and its marks
abbrev pub Received : FieldModel → ℕ → (word marks : List ℕ) → Type 0
Received f k word marks = InKind f (length word) k × (length marks ≡ length word) × Below f (length word) word × AllByRecursion (λ m. m < 2) marks

abbrev pub reach : ℕ → List ℕ → ℕ
reach k word = length word - k + 1

-- v is the interpolant through the places that are not skipped, and it is accepted if there are enough and it lies near
abbrev pub Guessed : FieldModel → ℕ → (word marks skip v p : List ℕ) → Result ℕ Fault → Type 0
Guessed f k word marks skip v p r =
    (taken : ℕ) × Interpolated f (length word) k word skip (length word) v p taken
    × MatchResult r (λ h. (taken ≡ k) × (h ≡ harm word marks v) × (h < reach k word)) (λ e. (e ≡ fault NoCodeword Code 0) × (taken ≡ k → reach k word ≤ harm word marks v))

-- v is the near codeword, or there is none
abbrev pub Found : FieldModel → ℕ → (word marks v : List ℕ) → Result ℕ Fault → Type 0
Found f k word marks v r =
    MatchResult r (λ h. Codeword f (length word) k v × (h ≡ harm word marks v) × (h < reach k word))
    (λ e. (e ≡ fault NoCodeword Code 0) × ((w : List ℕ) → Codeword f (length word) k w → harm word marks w < reach k word → ⊥))

-- a message for codewords of n symbols
abbrev pub MessageOfKind : FieldModel → ℕ → List ℕ → Type 0
MessageOfKind f n message = InKind f n (length message) × AllByRecursion (λ x. x < size f) message

-- whether a word is the codeword of a message
abbrev pub Recognized : FieldModel → (message word : List ℕ) → Result (Unit {0}) Fault → Type 0
Recognized f message word r =
    MatchResult r (λ _. (reed_solomon f (length word) (length message)).codeword message ≡ word)
    (λ e. (e ≡ fault NoCodeword Code 0) × ((reed_solomon f (length word) (length message)).codeword message ≢ word))

-- the near codeword has taken the place of the word, or there is none and nothing has changed
abbrev pub Replaced : FieldModel → ℕ → (word marks word' : List ℕ) → Result ℕ Fault → Type 0
Replaced f k word marks word' r =
    MatchResult r (λ h. Codeword f (length word) k word' × (h ≡ harm word marks word') × (h < reach k word))
    (λ e. (e ≡ fault NoCodeword Code 0) × (word' ≡ word) × ((w : List ℕ) → Codeword f (length word) k w → harm word marks w < reach k word → ⊥))
