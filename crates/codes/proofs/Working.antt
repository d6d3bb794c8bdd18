-- What a call owes once its buffers have passed. Assumes nothing.
use Rattle.std.proofs.Common.{◌≡◌, ℕ, ◌*◌, ◌%◌, ◌^◌, ◌<◌, ◌≤◌, List, [], ◌∷◌, length, None, Ok, Err, refl, ap, ◌∙◌, subst, mod-eq_of_lt, one-mul, arith, pow_mono}
use Rattle.std.specs.List.{AllByRecursion}
use Rattle.words.specs.declared.fault.Kind.TheVariants.{NoCodeword}
use Rattle.words.specs.declared.fault.Layer.TheVariants.{Code}
use Rattle.words.specs.Buffers.{Given, checked, refusal}
use Rattle.words.specs.Faults.{fault}
use Rattle.words.specs.Harm.{harm}
use Rattle.words.proofs.Passes.{fits_from_none}
use Rattle.words.proofs.Rises.{checked_ok}
use Rattle.codes.specs.declared.checks.Parameters.{Parameters}
use Rattle.codes.specs.Model.{CodeModel, Message, Near, Symbols}
use Rattle.codes.specs.Parameters.{parameters_of}
use Rattle.codes.specs.Promises.{values_below, written_to, marks_of, Recovered, Corrected}

-- the number of symbols as a program works it out
pub shifted : (m : ℕ) → m ≤ 8 → 1 * 2 ^ m % 18446744073709551616 ≡ 2 ^ m
shifted m h = ap (λ n. n % 18446744073709551616) (one-mul (2 ^ m)) ∙ mod-eq_of_lt (omega (arith, pow_mono {i = m} {j = 8} h))

module _ (c : CodeModel) where
  abbrev pub encode_buffers : ℕ → List ℕ → List ℕ → List Given
  encode_buffers s message word = values_below s c.message_len message ∷ written_to c.len word ∷ []

  abbrev pub message_of_buffers : ℕ → List ℕ → List ℕ → List Given
  message_of_buffers s message word = written_to c.message_len message ∷ values_below s c.len word ∷ []

  abbrev pub correct_buffers : ℕ → List ℕ → List ℕ → List Given
  correct_buffers s word marks = values_below s c.len word ∷ marks_of c.len marks ∷ []

  -- the checks of a call that were made against the parameters of the code
  module _ {p : Parameters} (is : p ≡ parameters_of c) where
    pub encode_passes : (message word : List ℕ) {u : Unit {0}} → Ok u ≡ checked (refusal Code (values_below p.symbols p.message_len message ∷ written_to p.len word ∷ [])) → refusal Code (encode_buffers (2 ^ c.width) message word) ≡ None
    encode_passes message word e = subst (λ (q : Parameters). refusal Code (values_below q.symbols q.message_len message ∷ written_to q.len word ∷ []) ≡ None) is (checked_ok _ e)

    pub message_of_passes : (message word : List ℕ) {u : Unit {0}} → Ok u ≡ checked (refusal Code (written_to p.message_len message ∷ values_below p.symbols p.len word ∷ [])) → refusal Code (message_of_buffers (2 ^ c.width) message word) ≡ None
    message_of_passes message word e = subst (λ (q : Parameters). refusal Code (written_to q.message_len message ∷ values_below q.symbols q.len word ∷ []) ≡ None) is (checked_ok _ e)

    pub correct_passes : (word marks : List ℕ) {u : Unit {0}} → Ok u ≡ checked (refusal Code (values_below p.symbols p.len word ∷ marks_of p.len marks ∷ [])) → refusal Code (correct_buffers (2 ^ c.width) word marks) ≡ None
    correct_passes word marks e = subst (λ (q : Parameters). refusal Code (values_below q.symbols q.len word ∷ marks_of q.len marks ∷ []) ≡ None) is (checked_ok _ e)

  pub message_fits : (message word : List ℕ) → refusal Code (encode_buffers (2 ^ c.width) message word) ≡ None → Message c message × (length word ≡ c.len)
  message_fits message word e = let f = fits_from_none Code (encode_buffers (2 ^ c.width) message word) e in (f.0, f.1.0.0)

  pub word_fits : (message word : List ℕ) → refusal Code (message_of_buffers (2 ^ c.width) message word) ≡ None → Symbols c.width c.len word × (length message ≡ c.message_len)
  word_fits message word e =
      let f = fits_from_none Code (message_of_buffers (2 ^ c.width) message word) e in (f.1.0, f.0.0)

  pub damage_fits : (word marks : List ℕ) → refusal Code (correct_buffers (2 ^ c.width) word marks) ≡ None → Symbols c.width c.len word × ((length marks ≡ c.len) × AllByRecursion (λ m. m < 2) marks)
  damage_fits word marks e = let f = fits_from_none Code (correct_buffers (2 ^ c.width) word marks) e in (f.0, f.1.0)

  pub recovered : (word message message' : List ℕ) → refusal Code (message_of_buffers (2 ^ c.width) message word) ≡ None → Message c message' → c.codeword message' ≡ word → Recovered c word message message' (Ok tt)
  recovered word message message' e m is = rw e (m, is)

  pub unrecovered : (word message : List ℕ) → refusal Code (message_of_buffers (2 ^ c.width) message word) ≡ None → ((u : List ℕ) → Message c u → c.codeword u ≡ word → ⊥) → Recovered c word message message (Err (fault NoCodeword Code 0))
  unrecovered word message e none = rw e (refl, refl, none)

  pub corrected : (word marks word' : List ℕ) (h : ℕ) → refusal Code (correct_buffers (2 ^ c.width) word marks) ≡ None → (u : List ℕ) → Near c word marks u → word' ≡ c.codeword u → h ≡ harm word marks (c.codeword u) → Corrected c word marks word' (Ok h)
  corrected word marks word' h e u near w is = rw e (u, near, w, is)

  pub uncorrected : (word marks : List ℕ) (place : ℕ) → refusal Code (correct_buffers (2 ^ c.width) word marks) ≡ None → c.Blames word marks place → ((u : List ℕ) → Near c word marks u → ⊥) → Corrected c word marks word (Err (fault NoCodeword Code place))
  uncorrected word marks place e blamed none = rw e (place, blamed, refl, refl, none)
