-- The parts of a memory accept what it hands them. Assumes nothing.
use Rattle.std.proofs.Common.{◌≡◌, ℕ, ◌/◌, ◌^◌, ◌<◌, ◌≤◌, Bool, true, false, cond, eqb, ltb, List, [], ◌∷◌, map, length, take, replicate, Some, None, Ok, Err, count_by, Result, sym, refl, ap, ◌∙◌, subst, subst₂, arith, lt-ltb}
use Rattle.std.specs.List.{AllByRecursion}
use Rattle.std.proofs.ByRecursion.{All-weaker}
use Rattle.std.proofs.lemmas.List.{length-replicate, take-replicate}
use Rattle.std.proofs.lemmas.Option.{MatchOption-at_none}
use Rattle.std.proofs.lemmas.List.Sums.{sum_by-cons}
use Rattle.words.specs.declared.fault.Fault.{Fault}
use Rattle.words.specs.declared.fault.Kind.TheVariants.{PageOutOfRange}
use Rattle.words.specs.declared.fault.Layer.TheVariants.{Code, Medium, Memory}
use Rattle.words.specs.Buffers.{either, refusal, values_below, written_to}
use Rattle.words.specs.Faults.{fault}
use Rattle.words.proofs.Passes.{none_from_fits}
use Rattle.codes.specs.Model.{CodeModel, Lawful, Message}
use Rattle.codes.specs.Promises.{Encoded}
use Rattle.media_laws.specs.Model.{MediumModel, value_of, mark_of, stored, Unchanged, Changed}
use Rattle.media.specs.Promises.{Put, Fetched, page_refusal}
use Rattle.memory_laws.specs.Calls.{Joins, blanks, payload_refusal, recording}
use Rattle.memory_laws.specs.Payload.{carrying}
use Rattle.memory_laws.proofs.Outcomes.{payload_passed}
use Rattle.memory_laws.proofs.Payloads.{all_zeros}
use Rattle.memory_laws.proofs.Steps.{carrying_message}

pub page_passes : (m : MediumModel) (p : ℕ) → p < m.pages → page_refusal m p ≡ None
page_passes m p l = rw (lt-ltb p m.pages l)

pub encode_accepts : (c : CodeModel) (message word word' : List ℕ) (r : Result (Unit {0}) Fault) → Message c message → length word ≡ c.len → AllByRecursion (λ b. b < 256) word → Encoded c message word word' r → (r ≡ Ok tt) × (word' ≡ c.codeword message)
encode_accepts c message word word' r mu long bytes e =
    MatchOption-at_none _ _ (none_from_fits Code (values_below (2 ^ c.width) c.message_len message ∷ written_to c.len word ∷ []) (mu, ((long, bytes), tt))) e

pub put_accepts : (m m' : MediumModel) (c : CodeModel) (p : ℕ) (u : List ℕ) (r : Result (Unit {0}) Fault) → Lawful c → Joins m c → p < m.pages → Message c u → Put m m' p (c.codeword u) r → (r ≡ Ok tt) × Changed m m' p (stored (m.page p) (c.codeword u))
put_accepts m m' c p u r lc j l mu w =
    let s = lc.symbols u mu in
    let bits = subst (λ (x : ℕ). AllByRecursion (λ v. v < 2 ^ x) (c.codeword u)) j.bits s.1 in
    let none : either (page_refusal m p) (refusal Medium (values_below 2 m.breadth (c.codeword u) ∷ [])) ≡ None = ap (λ due. either due (refusal Medium (values_below 2 m.breadth (c.codeword u) ∷ []))) (page_passes m p l) ∙ none_from_fits Medium (values_below 2 m.breadth (c.codeword u) ∷ []) ((s.0 ∙ j.same_length, bits), tt) in
    MatchOption-at_none _ _ none w

pub fetch_accepts : (m m' : MediumModel) (p : ℕ) (cells marks cells' marks' : List ℕ) (r : Result (Unit {0}) Fault) → p < m.pages → length cells ≡ m.breadth → AllByRecursion (λ b. b < 256) cells → length marks ≡ m.breadth → AllByRecursion (λ b. b < 256) marks → Fetched m m' p cells marks cells' marks' r → Unchanged m m' × ((r ≡ Ok tt) × (cells' ≡ map value_of (m.page p)) × (marks' ≡ map mark_of (m.page p)))
fetch_accepts m m' p cells marks cells' marks' r l lc bc lm bm w =
    let bs = written_to m.breadth cells ∷ written_to m.breadth marks ∷ [] in
    let none : either (page_refusal m p) (refusal Medium bs) ≡ None = ap (λ due. either due (refusal Medium bs)) (page_passes m p l) ∙ none_from_fits Medium bs ((lc, bc), ((lm, bm), tt)) in
    (w.0, MatchOption-at_none _ _ none w.1)

pub changed_then_unchanged : (m m' m'' : MediumModel) (p : ℕ) (states : List ℕ) → p < m.pages → Changed m m' p states → Unchanged m' m'' → Changed m m'' p states
changed_then_unchanged m m' m'' p states l c u =
    record {
      pages = u.pages ∙ c.pages;
      breadth = u.breadth ∙ c.breadth;
      here = u.states p (omega (arith, c.pages)) ∙ c.here;
      elsewhere = λ q lq ne. u.states q (omega (arith, c.pages)) ∙ c.elsewhere q lq ne;
    }

pub unchanged_then_changed : (m m' m'' : MediumModel) (p : ℕ) (states : List ℕ) → p < m.pages → Unchanged m m' → Changed m' m'' p states → Changed m m'' p states
unchanged_then_changed m m' m'' p states l u c =
    record {
      pages = c.pages ∙ u.pages;
      breadth = c.breadth ∙ u.breadth;
      here = c.here;
      elsewhere = λ q lq ne. c.elsewhere q (omega (arith, u.pages)) ne ∙ u.states q lq;
    }

mark_blank : (s : ℕ) → ◌≡◌ {A = ℕ} (cond (eqb (mark_of s) 1) 1 0) (cond (eqb s 2) 1 0)
mark_blank s = by (eqb s 2)
  where
    by : (t : Bool) → ◌≡◌ {A = ℕ} (cond (eqb (cond t 1 0) 1) 1 0) (cond t 1 0)
    by true = refl
    by false = refl

-- the marks that are set are the blank cells
pub marks_blanks : (states : List ℕ) → count_by (λ m. eqb m 1) (map mark_of states) ≡ blanks states
marks_blanks [] = refl
marks_blanks (s ∷ states) =
    sum_by-cons (λ m. cond (eqb m 1) 1 0) (mark_of s) (map mark_of states)
    ∙ omega (arith, mark_blank s, marks_blanks states)
    ∙ sym (sum_by-cons (λ x. cond (eqb x 2) 1 0) s states)

pub ok_not_err : {X : Type 0} (r : Result X Fault) (x : X) (f : Fault) → r ≡ Ok x → r ≡ Err f → ⊥
ok_not_err r x f a b = let z : ◌≡◌ {A = ℕ} 0 1 = cc in omega arith

-- fresh work space
pub fresh : (n : ℕ) → (length {A = ℕ} (replicate n 0) ≡ n) × AllByRecursion (λ b. b < 256) (replicate n 0)
fresh n = (length-replicate n 0, all_zeros (λ b. b < 256) n (omega arith))

-- the front of a row of 4,096 zeros
cleared : (n k : ℕ) → k ≡ n → n ≤ 4096 → take {A = ℕ} k (replicate 4096 0) ≡ replicate n 0
cleared n k e few = ap (λ x. take {A = ℕ} x (replicate 4096 0)) e ∙ take-replicate n 4096 0 few

module _ (c : CodeModel) (lc : Lawful c) where
  pub clear_message : (k : ℕ) → k ≡ c.message_len → take {A = ℕ} k (replicate 4096 0) ≡ replicate c.message_len 0
  clear_message k e = cleared c.message_len k e (omega (arith, lc.message_within, lc.short))

  pub clear_word : (k : ℕ) → k ≡ c.len → take {A = ℕ} k (replicate 4096 0) ≡ replicate c.len 0
  clear_word k e = cleared c.len k e lc.short

-- what a call's checks passed
pub call_passed : (m : MediumModel) (c : CodeModel) (page pages bits : ℕ) (payload : List ℕ) → pages ≡ m.pages → bits ≡ c.message_len → either (cond (ltb page pages) None (Some (fault PageOutOfRange Medium page))) (refusal Memory (written_to (bits / 8) payload ∷ [])) ≡ None → payload_refusal m c page payload ≡ None
call_passed m c page pages bits payload ep eb =
    subst₂ (λ (n k : ℕ). either (cond (ltb page n) None (Some (fault PageOutOfRange Medium page))) (refusal Memory (written_to (k / 8) payload ∷ [])) ≡ None) ep eb

-- the whole of a write: the code encodes, the medium puts and then fetches
module _ (m m' m'' : MediumModel) (c : CodeModel) (lc : Lawful c) (j : Joins m c) (p : ℕ) (payload : List ℕ) (passed : payload_refusal m c p payload ≡ None) where
  pub its_message : Message c (carrying c.message_len payload)
  its_message = carrying_message c payload j.bits (payload_passed m c p payload passed).1.0

  pub encodes : (word word' : List ℕ) (r : Result (Unit {0}) Fault) → word ≡ replicate c.len 0 → Encoded c (carrying c.message_len payload) word word' r → (r ≡ Ok tt) × (word' ≡ recording c payload)
  encodes word word' r e w =
      let right = subst (λ (xs : List ℕ). (length xs ≡ c.len) × AllByRecursion (λ b. b < 256) xs) (sym e) (fresh c.len) in
      encode_accepts c (carrying c.message_len payload) word word' r its_message right.0 right.1 w

  pub puts : (word : List ℕ) (r : Result (Unit {0}) Fault) → word ≡ recording c payload → Put m m' p word r → (r ≡ Ok tt) × Changed m m' p (stored (m.page p) (recording c payload))
  puts word r e w =
      put_accepts m m' c p (carrying c.message_len payload) r lc j (payload_passed m c p payload passed).0 its_message (subst (λ (xs : List ℕ). Put m m' p xs r) e w)

  pub fetches : (word marks word' marks' : List ℕ) (r : Result (Unit {0}) Fault) → word ≡ recording c payload → marks ≡ replicate c.len 0 → Changed m m' p (stored (m.page p) (recording c payload)) → Fetched m' m'' p word marks word' marks' r → (r ≡ Ok tt) × (Changed m m'' p (stored (m.page p) (recording c payload)) × (count_by (λ x. eqb x 1) marks' ≡ blanks (m''.page p)))
  fetches word marks word' marks' r ew em changed w =
      let l = (payload_passed m c p payload passed).0 in
      let l' : p < m'.pages = omega (arith, changed.pages) in
      let s = lc.symbols (carrying c.message_len payload) its_message in
      let bits = subst (λ (x : ℕ). AllByRecursion (λ v. v < 2 ^ x) (recording c payload)) j.bits s.1 in
      let bytes = All-weaker (λ v. v < 2) (λ v. v < 256) (λ x h. omega arith) (recording c payload) bits in
      let wide = j.same_length ∙ sym changed.breadth in
      let right = subst (λ (xs : List ℕ). (length xs ≡ c.len) × AllByRecursion (λ b. b < 256) xs) (sym ew) (s.0, bytes) in
      let clear = subst (λ (xs : List ℕ). (length xs ≡ c.len) × AllByRecursion (λ b. b < 256) xs) (sym em) (fresh c.len) in
      let got = fetch_accepts m' m'' p word marks word' marks' r l' (right.0 ∙ wide) right.1 (clear.0 ∙ wide) clear.1 w in
      (got.1.0, (changed_then_unchanged m m' m'' p (stored (m.page p) (recording c payload)) l changed got.0, ap (count_by (λ x. eqb x 1)) got.1.2 ∙ marks_blanks (m'.page p) ∙ ap blanks (sym (got.0.states p l'))))
