-- A read leaves one answer and one payload, and a patrol one answer and one state of each page. Assumes nothing.
use Rattle.std.proofs.Common.{◌≡◌, ℕ, ◌<◌, List, Some, None, Ok, Err, Option, Result, sym, refl, ap, ◌∙◌, subst, inl, inr, ⊎_elim, arith}
use Rattle.std.specs.Option as options
use Rattle.std.specs.Result as results
use Rattle.std.proofs.lemmas.Bool.{cases_eq, cases_order}
use Rattle.words.specs.declared.fault.Fault.{Fault}
use Rattle.words.specs.declared.fault.Kind.TheVariants.{NoCodeword, SpareBitSet}
use Rattle.words.specs.declared.fault.Layer.TheVariants.{Code, Memory}
use Rattle.words.specs.Faults.{fault, on_page}
use Rattle.codes.specs.Model.{CodeModel, Lawful}
use Rattle.media_laws.specs.Model.{MediumModel, LawfulMedium, stored, Unchanged, Changed}
use Rattle.media.specs.Promises.{page_refusal}
use Rattle.memory_laws.specs.Calls.{Joins, OnePatrol, OneRead, Restores, Unrestored, word_of, marks_of, page_harm, payload_refusal}
use Rattle.memory_laws.specs.Payload.{FirstSpare, bytes_of, page_bytes}
use Rattle.memory_laws.proofs.Exact.{not_both, only}
use Rattle.memory_laws.proofs.Outcomes.{page_there, payload_passed}
use Rattle.memory_laws.proofs.Restoring.{page_beside}

-- one spare bit is the first that is set
one_spare : (k : ℕ) (u : List ℕ) (bit bit' : ℕ) → FirstSpare k u bit → FirstSpare k u bit' → bit' ≡ bit
one_spare k u bit bit' a b =
    ⊎_elim (λ e. e)
    (⊎_elim (λ l. absurd (omega (arith, b.set, a.first bit' b.spare l))) (λ l. absurd (omega (arith, a.set, b.first bit a.spare l))))
    (cases_order bit' bit)

-- two media that one medium was left as
module _ (m m' m'' : MediumModel) where
  left_alike : Unchanged m m' → Unchanged m m'' → Unchanged m' m''
  left_alike a b =
      record {
        pages = b.pages ∙ sym a.pages;
        breadth = b.breadth ∙ sym a.breadth;
        states = λ q l. b.states q (omega (arith, a.pages)) ∙ sym (a.states q (omega (arith, a.pages)));
      }

  changed_alike : (p : ℕ) (states states' : List ℕ) → states' ≡ states → Changed m m' p states → Changed m m'' p states' → Unchanged m' m''
  changed_alike p states states' same a b =
      record { pages = b.pages ∙ sym a.pages; breadth = b.breadth ∙ sym a.breadth; states = λ q l. ⊎_elim (here q) (elsewhere q l) (cases_eq q p) }
    where
      here : (q : ℕ) → q ≡ p → m''.page q ≡ m'.page q
      here q e = ap m''.page e ∙ b.here ∙ same ∙ sym a.here ∙ ap m'.page (sym e)

      elsewhere : (q : ℕ) → q < m'.pages → (q ≡ p → ⊥) → m''.page q ≡ m'.page q
      elsewhere q l ne = b.elsewhere q (omega (arith, a.pages)) ne ∙ sym (a.elsewhere q (omega (arith, a.pages)) ne)

module _ (c : CodeModel) (lc : Lawful c) (m : MediumModel) (h : LawfulMedium m) (j : Joins m c) (p : ℕ) where
  -- a page that is not corrected is refused by one fault
  one_unrestored : p < m.pages → (f f' : Fault) → Unrestored m c p f → Unrestored m c p f' → f' ≡ f
  one_unrestored l f f' (inl o) (inl o') =
      let same = lc.one_place (word_of m p) (marks_of m p) (page_beside m m c h lc j p l) o'.0 o.0 o'.1 o.1 in
      o'.2 ∙ ap (λ place. on_page (fault NoCodeword Code place) p) same ∙ sym o.2
  one_unrestored l f f' (inl o) (inr o') = absurd (o.3 o'.0 o'.1)
  one_unrestored l f f' (inr o) (inl o') = absurd (o'.3 o.0 o.1)
  one_unrestored l f f' (inr (u, near, bit, named, first)) (inr (u', near', bit', named', first')) =
      let as-first = subst (λ (v : List ℕ). FirstSpare c.message_len v bit') (only c lc m h j p l u u' near near') first' in
      named' ∙ ap (λ b. on_page (fault SpareBitSet Memory b) p) (one_spare c.message_len u bit bit' first as-first) ∙ sym named

  -- what a restored page gives, here by the message and its harm
  abbrev Restoring : (List ℕ → Type 0) → ℕ → Type 0
  Restoring Gives n = (u : List ℕ) × Restores m c p u × Gives u × (n ≡ page_harm m p (c.codeword u))

  -- where both give the same for one message, and where they stay the same
  one_restoring : {Z : Type 0} → p < m.pages → (Gives Gives' : List ℕ → Type 0) (Stays Stays' : Type 0) (r r' : Result ℕ Fault) → ((u : List ℕ) → Gives u → Gives' u → Z) → (Stays → Stays' → Z) → results.MatchResult r (Restoring Gives) (λ f. Unrestored m c p f × Stays) → results.MatchResult r' (Restoring Gives') (λ f. Unrestored m c p f × Stays') → Z × (r' ≡ r)
  one_restoring l Gives Gives' Stays Stays' (Ok n) (Ok n') given left (u, restores, gives, harm) (u', restores', gives', harm') =
      let same = only c lc m h j p l u u' restores.0 restores'.0 in
      (given u gives (subst Gives' same gives'), ap Ok (harm' ∙ ap (λ v. page_harm m p (c.codeword v)) same ∙ sym harm))
  one_restoring l Gives Gives' Stays Stays' (Ok n) (Err f) given left a b = absurd (not_both c lc m h j p l a.0 a.1 f b.0)
  one_restoring l Gives Gives' Stays Stays' (Err f) (Ok n) given left a b = absurd (not_both c lc m h j p l b.0 b.1 f a.0)
  one_restoring l Gives Gives' Stays Stays' (Err f) (Err f') given left a b =
      (left a.1 b.1, ap Err (one_unrestored l f f' a.0 b.0))

  abbrev Reads : (payload payload' : List ℕ) → Result ℕ Fault → Type 0
  Reads payload payload' r =
      results.MatchResult r (Restoring (λ u. payload' ≡ bytes_of (page_bytes c.message_len) u)) (λ f. Unrestored m c p f × (payload' ≡ payload))

  pub one_read : (payload : List ℕ) → OneRead m c p payload
  one_read payload m' m'' x x' r r' w w' = by (payload_refusal m c p payload) refl w.1 w'.1
    where
      by : (due : Option Fault) → payload_refusal m c p payload ≡ due → options.MatchOption due (Reads payload x r) (λ f. (r ≡ Err (on_page f p)) × (x ≡ payload)) → options.MatchOption due (Reads payload x' r') (λ f. (r' ≡ Err (on_page f p)) × (x' ≡ payload)) → (x' ≡ x) × (r' ≡ r)
      by None e a b =
          one_restoring (payload_passed m c p payload e).0 _ _ _ _ r r' (λ u is is'. is' ∙ sym is) (λ is is'. is' ∙ sym is) a b
      by (Some f) e a b = (b.1 ∙ sym a.1, b.0 ∙ sym a.0)

  abbrev Patrols : MediumModel → Result ℕ Fault → Type 0
  Patrols m' r =
      results.MatchResult r (Restoring (λ u. Changed m m' p (stored (m.page p) (c.codeword u)))) (λ f. Unrestored m c p f × Unchanged m m')

  pub one_patrol : OnePatrol m c p
  one_patrol m' m'' r r' w w' = by (page_refusal m p) refl w w'
    where
      by : (due : Option Fault) → page_refusal m p ≡ due → options.MatchOption due (Patrols m' r) (λ f. (r ≡ Err (on_page f p)) × Unchanged m m') → options.MatchOption due (Patrols m'' r') (λ f. (r' ≡ Err (on_page f p)) × Unchanged m m'') → (r' ≡ r) × Unchanged m' m''
      by None e a b =
          let one = one_restoring (page_there m p e) _ _ _ _ r r' (λ u is is'. changed_alike m m' m'' p _ _ refl is is') (left_alike m m' m'') a b in
          (one.1, one.0)
      by (Some f) e a b = (b.0 ∙ sym a.0, left_alike m m' m'' a.1 b.1)
