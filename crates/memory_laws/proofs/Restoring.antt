-- A page is fetched, corrected and turned into a message. Assumes nothing.
use Rattle.std.proofs.Common.{◌≡◌, ℕ, ◌^◌, ◌<◌, List, [], ◌∷◌, map, length, replicate, None, Ok, Err, Result, sym, refl, ap, ◌∙◌, subst, subst₂, arith}
use Rattle.std.specs.Result as results
use Rattle.std.specs.List.{AllByRecursion}
use Rattle.std.proofs.lemmas.List.{length-map}
use Rattle.std.proofs.lemmas.Option.{MatchOption-at_none}
use Rattle.std.proofs.lemmas.Bool.Decides.{nat_tests}
use Rattle.words.specs.declared.fault.Fault.{Fault}
use Rattle.words.specs.declared.fault.Kind.TheVariants.{NoCodeword}
use Rattle.words.specs.declared.fault.Layer.TheVariants.{Code}
use Rattle.words.specs.Buffers.{written_to}
use Rattle.words.specs.Faults.{fault}
use Rattle.words.proofs.Passes.{none_from_fits}
use Rattle.codes.specs.Model.{Beside, CodeModel, Lawful, Message, Near}
use Rattle.codes.specs.Promises.{Corrected, Recovered, symbols_of, marks_of}
use Rattle.media_laws.specs.Model.{MediumModel, LawfulMedium, value_of, mark_of, stored, Unchanged, Changed}
use Rattle.media.specs.Promises.{Fetched, Put, page_refusal}
use Rattle.memory_laws.specs.Calls.{Joins, Restored, Recalled, Patrolled, word_of, page_harm, payload_refusal}
use Rattle.memory_laws.specs.Calls as calls
use Rattle.memory_laws.proofs.Accepts.{fetch_accepts, put_accepts, unchanged_then_changed, fresh}

value_small : (s : ℕ) → s < 3 → value_of s < 2
value_small s l = grind (arith, nat_tests)

mark_small : (s : ℕ) → mark_of s < 2
mark_small s = grind (arith, nat_tests)

values_small : (states : List ℕ) → AllByRecursion (λ s. s < 3) states → AllByRecursion (λ v. v < 2) (map value_of states)
values_small [] a = tt
values_small (s ∷ states) a = (value_small s a.0, values_small states a.1)

marks_small : (states : List ℕ) → AllByRecursion (λ v. v < 2) (map mark_of states)
marks_small [] = tt
marks_small (s ∷ states) = (mark_small s, marks_small states)

module _ (m m' : MediumModel) (c : CodeModel) (lm : LawfulMedium m) (lc : Lawful c) (j : Joins m c) (p : ℕ) (within : p < m.pages) where
  pub fetches_page : (word marks word' marks' : List ℕ) (r : Result (Unit {0}) Fault) → word ≡ replicate c.len 0 → marks ≡ replicate c.len 0 → Fetched m m' p word marks word' marks' r → Unchanged m m' × ((r ≡ Ok tt) × (word' ≡ word_of m p) × (marks' ≡ calls.marks_of m p))
  fetches_page word marks word' marks' r ew em w =
      let Clear : List ℕ → Type 0 = λ xs. (length xs ≡ m.breadth) × AllByRecursion (λ b. b < 256) xs in
      let clear : Clear (replicate c.len 0) = ((fresh c.len).0 ∙ j.same_length, (fresh c.len).1) in
      let word-clear = subst Clear (sym ew) clear in
      let marks-clear = subst Clear (sym em) clear in
      fetch_accepts m m' p word marks word' marks' r within word-clear.0 word-clear.1 marks-clear.0 marks-clear.1 w

  -- a fetched page is a word of the code beside its marks
  pub page_beside : Beside c (word_of m p) (calls.marks_of m p)
  page_beside =
      let page = lm.states p within in
      let long = page.0 ∙ sym j.same_length in
      let symbols = subst (λ (x : ℕ). AllByRecursion (λ v. v < 2 ^ x) (word_of m p)) (sym j.bits) (values_small (m.page p) page.1) in
      ((length-map (m.page p) value_of ∙ long, symbols), (length-map (m.page p) mark_of ∙ long, marks_small (m.page p)))

  pub corrects : (word marks word' : List ℕ) (r : Result ℕ Fault) → word ≡ word_of m p → marks ≡ calls.marks_of m p → Corrected c word marks word' r → results.MatchResult r (λ h. (u : List ℕ) × Near c (word_of m p) (calls.marks_of m p) u × (word' ≡ c.codeword u) × (h ≡ page_harm m p (c.codeword u))) (λ f. (place : ℕ) × c.Blames (word_of m p) (calls.marks_of m p) place × (f ≡ fault NoCodeword Code place) × ((u : List ℕ) → Near c (word_of m p) (calls.marks_of m p) u → ⊥))
  corrects word marks word' r ew em w =
      let none = none_from_fits Code (symbols_of c c.len (word_of m p) ∷ marks_of c.len (calls.marks_of m p) ∷ []) (page_beside.0, (page_beside.1, tt)) in
      let told = MatchOption-at_none _ _ none (subst₂ (λ (xs ys : List ℕ). Corrected c xs ys word' r) ew em w) in
      by r told
    where
      by : (r : Result ℕ Fault) → results.MatchResult r (λ h. (u : List ℕ) × Near c (word_of m p) (calls.marks_of m p) u × (word' ≡ c.codeword u) × (h ≡ page_harm m p (c.codeword u))) (λ f. (place : ℕ) × c.Blames (word_of m p) (calls.marks_of m p) place × (f ≡ fault NoCodeword Code place) × (word' ≡ word_of m p) × ((u : List ℕ) → Near c (word_of m p) (calls.marks_of m p) u → ⊥)) → results.MatchResult r (λ h. (u : List ℕ) × Near c (word_of m p) (calls.marks_of m p) u × (word' ≡ c.codeword u) × (h ≡ page_harm m p (c.codeword u))) (λ f. (place : ℕ) × c.Blames (word_of m p) (calls.marks_of m p) place × (f ≡ fault NoCodeword Code place) × ((u : List ℕ) → Near c (word_of m p) (calls.marks_of m p) u → ⊥))
      by (Ok h) o = o
      by (Err f) o = (o.0, o.1, o.2, o.4)

-- the message of a codeword is found
pub recovers : (c : CodeModel) (lc : Lawful c) (u word message message' : List ℕ) (r : Result (Unit {0}) Fault) → Message c u → word ≡ c.codeword u → message ≡ replicate c.message_len 0 → Recovered c word message message' r → (r ≡ Ok tt) × Message c message' × (c.codeword message' ≡ word)
recovers c lc u word message message' r mu ew em w =
    let symbols = lc.symbols u mu in
    let none = none_from_fits Code (written_to c.message_len (replicate c.message_len 0) ∷ symbols_of c c.len (c.codeword u) ∷ []) (fresh c.message_len, (symbols, tt)) in
    let told = MatchOption-at_none _ _ none (subst₂ (λ (xs ys : List ℕ). Recovered c xs ys message' r) ew em w) in
    let got = by r told in
    (got.0, got.1, got.2 ∙ sym ew)
  where
    by : (r : Result (Unit {0}) Fault) → results.MatchResult r (λ _. Message c message' × (c.codeword message' ≡ c.codeword u)) (λ f. (f ≡ fault NoCodeword Code 0) × (message' ≡ replicate c.message_len 0) × ((v : List ℕ) → Message c v → c.codeword v ≡ c.codeword u → ⊥)) → (r ≡ Ok tt) × Message c message' × (c.codeword message' ≡ c.codeword u)
    by (Ok x) o = (refl, o.0, o.1)
    by (Err f) o = absurd (o.2 u mu refl)

-- what correct answered
abbrev pub Nearest : MediumModel → CodeModel → ℕ → List ℕ → ℕ → Type 0
Nearest m c p word h = (u : List ℕ) × Near c (word_of m p) (calls.marks_of m p) u × (word ≡ c.codeword u) × (h ≡ page_harm m p (c.codeword u))

-- a call that restores its page, once its checks have passed
module _ (m m' : MediumModel) (c : CodeModel) (p : ℕ) (same : Unchanged m m') (message word : List ℕ) where
  pub patrol_put : (m'' : MediumModel) (h : ℕ) (r : Result (Unit {0}) Fault) → Lawful c → Joins m c → p < m.pages → page_refusal m p ≡ None → Restored m c p message word (Ok h) → Put m' m'' p word r → (r ≡ Ok tt) × Patrolled m m'' c p (Ok h)
  patrol_put m'' h r lc j l passed got w =
      let joins : Joins m' c = record { bits = j.bits; same_length = j.same_length ∙ sym same.breadth; some_byte = j.some_byte } in
      let l' : p < m'.pages = omega (arith, same.pages) in
      let put = put_accepts m' m'' c p message r lc joins l' got.0.0.0 (subst (λ (xs : List ℕ). Put m' m'' p xs r) got.1 w) in
      let changed = subst (λ (states : List ℕ). Changed m m'' p (stored states (c.codeword message))) (same.states p l) (unchanged_then_changed m m' m'' p (stored (m'.page p) (c.codeword message)) l same put.1) in
      (put.0, rw passed (message, got.0, changed, got.2 ∙ ap (page_harm m p) got.1))
