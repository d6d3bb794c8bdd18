-- What the calls of a sound code or chain answer where nothing is refused. Assumes nothing.
use Rattle.std.proofs.Common.{◌≡◌, ℕ, suc, ◌+◌, ◌-◌, ◌^◌, ◌<◌, ◌≤◌, min, ◌&&◌, ltb, leb, List, [], ◌∷◌, length, Some, None, Ok, Err, Option, Result, refl, ap, ◌∙◌, subst, arith, pow_mono, MatchResult}
use Rattle.std.specs.List.{AllByRecursion}
use Rattle.std.proofs.ByRecursion.{All-weaker}
use Rattle.std.proofs.lemmas.Bool.{and_from, cond-true, le-leb, lt-ltb}
use Rattle.words.specs.declared.fault.Fault.{Fault}
use Rattle.words.specs.declared.fault.Kind.TheVariants.{NoCodeword}
use Rattle.words.specs.declared.fault.Layer.{Layer}
use Rattle.words.specs.declared.fault.Layer.TheVariants.{Chain, Code}
use Rattle.words.specs.Buffers.{answered, checked, either, refusal}
use Rattle.words.specs.Faults.{fault}
use Rattle.words.specs.Harm.{harm, harm_buffers}
use Rattle.words.proofs.Passes.{none_from_fits}
use Rattle.chains.specs.declared.chain.Estimate.{Estimate}
use Rattle.chains.specs.Model.{Cells, ChainModel, LabelsFrom, LawfulChain, Row, Stage}
use Rattle.chains.specs.Promises.{Answered, Estimated, Estimates, OfStage, Worded, kept_or}
use Rattle.chains.specs.Refusals.{binary, estimate_refusal, large_label, sized, stage_refusal, word_refusal}
use Rattle.codes.specs.Model.{CodeModel, Message, Symbols}
use Rattle.codes.specs.Promises.{Encoded, Recovered}
use Rattle.codes.proofs.Working.{encode_buffers, message_of_buffers}

-- a number of a stage that there is
pub stage_number : (h : ChainModel) (number : ℕ → ℕ) (i x : ℕ) → Stage h i → OfStage h number i (Ok x) → x ≡ number i
stage_number h number i x st of =
    let none : stage_refusal h.stages i ≡ None = cond-true (leb 1 i && leb i h.stages) _ _ (and_from _ _ (le-leb 1 i st.0) (le-leb i h.stages st.1)) in
    let is : Ok x ≡ answered none_due (number i) = of ∙ ap (λ due. answered due (number i)) none in
    cc
  where
    none_due : Option Fault
    none_due = None

-- encode writes the codeword
pub encoded_answer : (c : CodeModel) (message word word' : List ℕ) (r : Result (Unit {0}) Fault) → Message c message → length word ≡ c.len → AllByRecursion (λ x. x < 256) word → Encoded c message word word' r → (r ≡ Ok tt) × (word' ≡ c.codeword message)
encoded_answer c message word word' r m l a e =
    let none : refusal Code (encode_buffers c (2 ^ c.width) message word) ≡ None = none_from_fits Code (encode_buffers c (2 ^ c.width) message word) (m, ((l, a), tt)) in
    rw none at e

-- message-of writes the message of a codeword
pub recovered_answer : (c : CodeModel) (word message message' : List ℕ) (r : Result (Unit {0}) Fault) (u : List ℕ) → Symbols c.width c.len word → length message ≡ c.message_len → AllByRecursion (λ x. x < 256) message → Message c u → c.codeword u ≡ word → Recovered c word message message' r → (r ≡ Ok tt) × Message c message' × (c.codeword message' ≡ word)
recovered_answer c word message message' r u s l a mu is e =
    let none : refusal Code (message_of_buffers c (2 ^ c.width) message word) ≡ None = none_from_fits Code (message_of_buffers c (2 ^ c.width) message word) ((l, a), (s, tt)) in
    by r (rw none at e)
  where
    by : (q : Result (Unit {0}) Fault) → MatchResult q (λ _. Message c message' × (c.codeword message' ≡ word)) (λ f. (f ≡ fault NoCodeword Code 0) × (message' ≡ message) × ((u : List ℕ) → Message c u → c.codeword u ≡ word → ⊥)) → (q ≡ Ok tt) × Message c message' × (c.codeword message' ≡ word)
    by (Ok t) found = (refl, found.0, found.1)
    by (Err f) refused = absurd (refused.2 u mu is)

-- labels of a chain are bytes
labels_bytes : (width : ℕ → ℕ) (i : ℕ) (us : List ℕ) → ((k : ℕ) → i ≤ k → k < i + length us → width k ≤ 8) → LabelsFrom width i us → AllByRecursion (λ x. x < 256) us
labels_bytes width i [] narrow f = tt
labels_bytes width i (x ∷ us) narrow f =
    (omega (arith, f.0, pow_mono {i = width i} {j = 8} (narrow i (omega arith) (omega arith))), labels_bytes width (suc i) us (λ k low high. narrow k (omega arith) (omega arith)) f.1)

none_large : (width : ℕ → ℕ) (i : ℕ) (us : List ℕ) → LabelsFrom width (suc i) us → large_label width i us ≡ None
none_large width i [] f = refl
none_large width i (x ∷ us) f = cond-true (ltb x (2 ^ width (suc i))) _ _ (lt-ltb x (2 ^ width (suc i)) f.0) ∙ none_large width (suc i) us f.1

pub both_none : {X : Type 0} (x y : Option X) → x ≡ None → y ≡ None → either x y ≡ None
both_none None y ex ey = ey
both_none (Some x) y ex ey = ex

module _ (h : ChainModel) (law : LawfulChain h) where
  narrow_before : (us : List ℕ) → length us ≤ h.stages → (k : ℕ) → 1 ≤ k → k < 1 + length us → h.width k ≤ 8
  narrow_before us few k low high = law.few_width k (low, omega arith)

  -- word-of fills the cells with the word of a row
  pub worded_answer : (labels cells after : List ℕ) (r : Result (Unit {0}) Fault) → Row h labels → length cells ≡ h.breadth → AllByRecursion (λ x. x < 256) cells → Worded h labels cells r after → (r ≡ Ok tt) × (after ≡ h.word labels)
  worded_answer labels cells after r row lc ac w =
      let sizes : refusal Chain (sized h.stages labels ∷ sized h.breadth cells ∷ []) ≡ None = none_from_fits Chain (sized h.stages labels ∷ sized h.breadth cells ∷ []) ((row.0, labels_bytes h.width 1 labels (narrow_before labels (omega (arith, row.0))) row.1), ((lc, ac), tt)) in
      let none : word_refusal h.breadth h.stages h.width labels cells ≡ None = both_none (refusal Chain (sized h.stages labels ∷ sized h.breadth cells ∷ [])) (large_label h.width 0 labels) sizes (none_large h.width 0 labels row.1) in
      (w.0 ∙ ap checked none, w.1 ∙ ap (λ due. kept_or due cells (h.word labels)) none)

  -- estimate answers what its meaning gives
  pub estimated_answer : (i : ℕ) (labels cells marks : List ℕ) (r : Result (Option Estimate) Fault) → Stage h i → length labels ≡ i - 1 → LabelsFrom h.width 1 labels → Cells h.breadth cells → Cells h.breadth marks → Estimated h i labels cells marks r → MatchResult r (Estimates h i labels cells marks) (λ _. ⊥)
  estimated_answer i labels cells marks r st ll fl fc fm e =
      let byte : (xs : List ℕ) → AllByRecursion (λ x. x < 2) xs → AllByRecursion (λ x. x < 256) xs = λ xs a. All-weaker (λ x. x < 2) (λ x. x < 256) (λ x l. omega arith) xs a in
      let stage : stage_refusal h.stages i ≡ None = cond-true (leb 1 i && leb i h.stages) _ _ (and_from _ _ (le-leb 1 i st.0) (le-leb i h.stages st.1)) in
      let row = sized (i - 1) labels ∷ sized h.breadth cells ∷ sized h.breadth marks ∷ [] in
      let sizes : refusal Chain row ≡ None = none_from_fits Chain row ((ll, labels_bytes h.width 1 labels (narrow_before labels (omega (arith, ll, st.1))) fl), ((fc.0, byte cells fc.1), ((fm.0, byte marks fm.1), tt))) in
      let large = none_large h.width 0 labels fl in
      let reading = binary h.breadth cells ∷ binary h.breadth marks ∷ [] in
      let bits : refusal Chain reading ≡ None = none_from_fits Chain reading (fc, (fm, tt)) in
      let none : estimate_refusal h.breadth h.stages h.width i labels cells marks ≡ None = both_none (stage_refusal h.stages i) _ stage (both_none (refusal Chain row) _ sizes (both_none (large_label h.width 0 labels) _ large bits)) in
      subst (λ (due : Option Fault). Answered due (Estimates h i labels cells marks) r) none e

-- harm is measured on words of one length and marks of 0 and 1
pub harm_answer : (layer : Layer) (word marks v : List ℕ) → length word ≤ 4096 → length marks ≡ length word → length v ≡ length word → AllByRecursion (λ m. m < 2) marks → AllByRecursion (λ x. x < 256) word → AllByRecursion (λ x. x < 256) v → answered (refusal layer (harm_buffers word marks v)) (harm word marks v) ≡ Ok (harm word marks v)
harm_answer layer word marks v short lm lv small bw bv =
    let places : length word ≡ min (length word) 4096 = omega arith in
    ap (λ due. answered due (harm word marks v)) (none_from_fits layer (harm_buffers word marks v) ((places, bw), ((lm ∙ places, small), ((lv ∙ places, bv), tt))))

pub stage_never : (h : ChainModel) (number : ℕ → ℕ) (i : ℕ) (f : Fault) → Stage h i → OfStage h number i (Err f) → ⊥
stage_never h number i f st of =
    let none : stage_refusal h.stages i ≡ None = cond-true (leb 1 i && leb i h.stages) _ _ (and_from _ _ (le-leb 1 i st.0) (le-leb i h.stages st.1)) in
    let is : Err f ≡ Ok (number i) = of ∙ ap (λ due. answered due (number i)) none in
    let z : ◌≡◌ {A = ℕ} 0 1 = cc in
    omega arith

-- what an answer that is never a refusal also says
pub cases_with : {X : Type 0} (r : Result X Fault) (P P' : X → Type 0) → ((x : X) → P x → P' x) → MatchResult r P (λ _. ⊥) → MatchResult r P' (λ _. ⊥)
cases_with (Ok x) P P' f p = f x p
cases_with (Err e) P P' f p = p
