-- What the calls' contracts leave of an answer, where an example gives one. Assumes nothing.
use Rattle.std.proofs.Common.{◌≡◌, ℕ, List, [], ◌∷◌, length, replicate, None, Some, Ok, Err, Option, Result, refl, sym, ap, ◌∙◌, subst, subst₂, lit≤}
use Rattle.std.proofs.lemmas.Option.{MatchOption-at_none}
use Rattle.words.specs.declared.fault.Fault.{Fault}
use Rattle.words.specs.declared.fault.Layer.TheVariants.{Code}
use Rattle.words.specs.Buffers.{refusal}
use Rattle.words.specs.Harm.{harm}
use Rattle.field_laws.specs.Polynomials.{polynomial}
use Rattle.field_laws.proofs.PolynomialLaws.{polynomial_laws}
use Rattle.codes.specs.Kinds.{repetition_code}
use Rattle.codes.specs.Model.{CodeModel, Lawful}
use Rattle.codes.specs.Promises.{Corrected, Encoded, symbols_of, marks_of}
use Rattle.codes.specs.Repeats.{repetition_lawful}
use Rattle.codes.proofs.Examples.{repetition_example}
use Rattle.codes.proofs.Single.{one_correction}
use Rattle.reed_solomon_laws.specs.Words.{InKind, kind_refusal, reed_solomon}
use Rattle.reed_solomon_laws.proofs.Fitting.{none_of_kind}
use Rattle.reed_solomon_laws.proofs.Laws.{reed_solomon_lawful}
use Rattle.reed_solomon.proofs.Examples.{reed_solomon_example}
use Rattle.fields.specs.declared.polynomial.Polynomial.{Polynomial}
use Rattle.reed_solomon.specs.declared.code.ReedSolomon.{ReedSolomon}
use Rattle.chains.specs.declared.chain.Estimate.{Estimate}
use Rattle.chains.specs.Derived.{Determined}
use Rattle.chains.specs.Examples.{near_estimate}
use Rattle.chains.specs.ReedMuller.{muller_chain}
use Rattle.chains.proofs.MullerExamples.{muller_examples}

turned : {P Q : Type 0} → P × Q → Q × P
turned t = (t.1, t.0)

same : (m n k : ℕ) → m ≡ 3 → n ≡ 8 → k ≡ 2 → reed_solomon (polynomial m) n k ≡ reed_solomon (polynomial 3) 8 2
same m n k em en ek = rw em (rw en (rw ek refl))

kind : (m n k : ℕ) → m ≡ 3 → n ≡ 8 → k ≡ 2 → InKind (polynomial m) n k
kind m n k em en ek = rw em (rw en (rw ek (lit≤ tt, lit≤ tt, lit≤ tt)))

-- the Reed-Solomon code that is made is the example's
module _ (code : ReedSolomon Polynomial) (is : (code.field.width ≡ 3) × (code.len ≡ 8) × (code.message_len ≡ 2)) where
  abbrev model : CodeModel
  model = reed_solomon (polynomial code.field.width) code.len code.message_len

  abbrev Passes : Type 0
  Passes = kind_refusal (polynomial code.field.width) code.len code.message_len ≡ None

  example : model ≡ reed_solomon (polynomial 3) 8 2
  example = same code.field.width code.len code.message_len is.0 is.1 is.2

  passes : Passes
  passes = none_of_kind (polynomial code.field.width) code.len code.message_len (kind code.field.width code.len code.message_len is.0 is.1 is.2)

  pub encoded_once : (word : List ℕ) (r : Result (Unit {0}) Fault) → (Passes → Encoded model (0 ∷ 1 ∷ []) (replicate 8 0) word r) → word ≡ 0 ∷ 1 ∷ 2 ∷ 3 ∷ 4 ∷ 5 ∷ 6 ∷ 7 ∷ []
  encoded_once word r told = (subst (λ c. Encoded c (0 ∷ 1 ∷ []) (replicate 8 0) word r) example (told passes)).1 ∙ reed_solomon_example.0

  pub mended_once : (word : List ℕ) (r : Result ℕ Fault) → (Passes → Corrected model (0 ∷ 1 ∷ 2 ∷ 3 ∷ 0 ∷ 0 ∷ 0 ∷ 7 ∷ []) (replicate 8 0) word r) → (r ≡ Ok 6) × (word ≡ 0 ∷ 1 ∷ 2 ∷ 3 ∷ 4 ∷ 5 ∷ 6 ∷ 7 ∷ [])
  mended_once word r told =
      let damaged : List ℕ = 0 ∷ 1 ∷ 2 ∷ 3 ∷ 0 ∷ 0 ∷ 0 ∷ 7 ∷ [] in
      let lawful = reed_solomon_lawful (polynomial 3) (polynomial_laws 3 (lit≤ tt) (lit≤ tt)) 8 2 (lit≤ tt, lit≤ tt, lit≤ tt) in
      turned (one_correction (reed_solomon (polynomial 3) 8 2) lawful damaged (replicate 8 0) _ word (Ok 6) r reed_solomon_example.1 (subst (λ c. Corrected c damaged (replicate 8 0) word r) example (told passes)))

pub repeated_once : (m n : ℕ) → m ≡ 1 → n ≡ 4 → (word : List ℕ) (r : Result ℕ Fault) → Corrected (repetition_code m n) (1 ∷ 1 ∷ 0 ∷ 0 ∷ []) (0 ∷ 0 ∷ 0 ∷ 1 ∷ []) word r → (r ≡ Ok 3) × (word ≡ 1 ∷ 1 ∷ 1 ∷ 1 ∷ [])
repeated_once m n em en word r told =
    let lawful = repetition_lawful 1 4 ((lit≤ tt, lit≤ tt), (lit≤ tt, lit≤ tt)) in
    turned (one_correction (repetition_code 1 4) lawful (1 ∷ 1 ∷ 0 ∷ 0 ∷ []) (0 ∷ 0 ∷ 0 ∷ 1 ∷ []) _ word (Ok 3) r repetition_example.0 (subst₂ (λ (x y : ℕ). Corrected (repetition_code x y) (1 ∷ 1 ∷ 0 ∷ 0 ∷ []) (0 ∷ 0 ∷ 0 ∷ 1 ∷ []) word r) em en told))

module _ (k : ℕ) (is : k ≡ 3) (r : Result (Option Estimate) Fault) where
  pub near_once : Determined (muller_chain k) 4 (replicate 3 0) (1 ∷ 1 ∷ 1 ∷ 1 ∷ 1 ∷ 0 ∷ 0 ∷ 0 ∷ []) (replicate 8 0) r → r ≡ Ok (Some near_estimate)
  near_once told = subst (λ (x : ℕ). Determined (muller_chain x) 4 (replicate 3 0) (1 ∷ 1 ∷ 1 ∷ 1 ∷ 1 ∷ 0 ∷ 0 ∷ 0 ∷ []) (replicate 8 0) r) is told refl (Some near_estimate) muller_examples.near

  pub midway_once : Determined (muller_chain k) 4 (replicate 3 0) (1 ∷ 1 ∷ 1 ∷ 1 ∷ 0 ∷ 0 ∷ 0 ∷ 0 ∷ []) (replicate 8 0) r → r ≡ Ok None
  midway_once told = subst (λ (x : ℕ). Determined (muller_chain x) 4 (replicate 3 0) (1 ∷ 1 ∷ 1 ∷ 1 ∷ 0 ∷ 0 ∷ 0 ∷ 0 ∷ []) (replicate 8 0) r) is told refl None muller_examples.absent
