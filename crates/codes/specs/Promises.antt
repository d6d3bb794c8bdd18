-- What the three calls of a sound code answer, refusals and buffers included. Assumes nothing.
use Rattle.std.specs.Prelude.{◌≡◌, ℕ, ◌^◌, ◌↔◌, List, [], ◌∷◌, Ok, Err, IsOk, Result, ◌≢◌}
use Rattle.std.specs.Option as options
use Rattle.std.specs.Result as results
use Rattle.words.specs.declared.fault.Fault.{Fault}
use Rattle.words.specs.declared.fault.Kind.TheVariants.{NoCodeword}
use Rattle.words.specs.declared.fault.Layer.TheVariants.{Code}
use Rattle.words.specs.Buffers.{Given, refusal}
pub use Rattle.words.specs.Buffers.{values_below, written_to}
use Rattle.words.specs.Faults.{fault}
use Rattle.words.specs.Harm.{harm}
use Rattle.codes.specs.Model.{Beside, CodeModel, Message, Near}

abbrev pub symbols_of : CodeModel → ℕ → List ℕ → Given
symbols_of c n xs = values_below (2 ^ c.width) n xs

-- marks are 0 or 1
abbrev pub marks_of : ℕ → List ℕ → Given
marks_of n xs = values_below 2 n xs

-- a refusal by the buffers comes first, and leaves what was to be written to; otherwise the call does its work
abbrev pub UnlessRefused : {X : Type 0} → List Given → Result X Fault → Type 0 → Type 0 → Type 0
UnlessRefused bs r Kept Worked = options.MatchOption (refusal Code bs) Worked (λ f. (r ≡ Err f) × Kept)

-- encode: the codeword of the message
abbrev pub Encoded : CodeModel → List ℕ → List ℕ → List ℕ → Result (Unit {0}) Fault → Type 0
Encoded c message word word' r =
    UnlessRefused (symbols_of c c.message_len message ∷ written_to c.len word ∷ []) r (word' ≡ word)
    ((r ≡ Ok tt) × (word' ≡ c.codeword message))

-- message-of: the message of a codeword, and a refusal of any other word
abbrev pub Recovered : CodeModel → List ℕ → List ℕ → List ℕ → Result (Unit {0}) Fault → Type 0
Recovered c word message message' r =
    UnlessRefused (written_to c.message_len message ∷ symbols_of c c.len word ∷ []) r (message' ≡ message)
    (results.MatchResult r (λ _. Message c message' × (c.codeword message' ≡ word))
    (λ f. (f ≡ fault NoCodeword Code 0) × (message' ≡ message) × ((u : List ℕ) → Message c u → c.codeword u ≢ word)))

-- correct: the codeword that is nearer than the distance, with its harm, and a refusal where there is none
abbrev pub Corrected : CodeModel → List ℕ → List ℕ → List ℕ → Result ℕ Fault → Type 0
Corrected c word marks word' r =
    UnlessRefused (symbols_of c c.len word ∷ marks_of c.len marks ∷ []) r (word' ≡ word)
    (results.MatchResult r
    (λ h. (u : List ℕ) × Near c word marks u × (word' ≡ c.codeword u) × (h ≡ harm word marks (c.codeword u)))
    (λ f. (place : ℕ) × c.Blames word marks place × (f ≡ fault NoCodeword Code place) × (word' ≡ word) × ((u : List ℕ) → Near c word marks u → ⊥)))

-- so a word and its marks are answered exactly where some codeword lies nearer than the distance
abbrev pub AnsweredExactly : CodeModel → (word marks : List ℕ) → Result ℕ Fault → Type 0
AnsweredExactly c word marks r = Beside c word marks → (IsOk r ↔ ((u : List ℕ) × Near c word marks u))

-- these leave one result each
abbrev pub OneCorrection : CodeModel → (word marks : List ℕ) → Type 0
OneCorrection c word marks =
    (w w' : List ℕ) (r r' : Result ℕ Fault) → Corrected c word marks w r → Corrected c word marks w' r' → (w' ≡ w) × (r' ≡ r)

abbrev pub OneRecovery : CodeModel → (word message : List ℕ) → Type 0
OneRecovery c word message =
    (u u' : List ℕ) (r r' : Result (Unit {0}) Fault) → Recovered c word message u r → Recovered c word message u' r' → (u' ≡ u) × (r' ≡ r)
