-- Answers fit in a signed word, and a refused read fills nothing. Assumes nothing.
use Rattle.std.proofs.Common.{◌≡◌, ℕ, ◌*◌, ◌<◌, ◌≤◌, Bool, true, false, cond, ◌==◌, List, [], ◌∷◌, length, Some, None, Ok, Err, IfErr, IfOk, MatchOption, MatchResult, Option, Result, refl, subst, sym, ◌∙◌, ◌^◌, arith, nat_eq}
use Rattle.std.proofs.lemmas.List.{length-map}
use Rattle.std.proofs.lemmas.List.FromFn.{length-map-range_with_len}
use Rattle.std.proofs.lemmas.List.Sums.{count_by-le-length}
use Rattle.words.specs.declared.fault.Fault.{Fault}
use Rattle.words.specs.Harm.{harm, harm_at}
use Rattle.words.specs.Faults.{on_page}
use Rattle.codes.specs.Model.{CodeModel}
use Rattle.media.specs.Promises.{page_refusal}
use Rattle.media_laws.specs.Model.{MediumModel, value_of, stored, Changed, Unchanged}
use Rattle.media_laws.specs.Packed.{packed, PackedFits}
use Rattle.memory_laws.specs.Calls.{Patrolled, Recalled, Restores, Unrestored, Written, blanks, marks_of, page_harm, payload_refusal, recording, word_of}
use Rattle.memory_laws.specs.Payload.{bytes_of, page_bytes}

one_place : (symbol mark sent : ℕ) → harm_at symbol mark sent ≤ 2
one_place symbol mark sent = by (mark == 0) (symbol == sent)
  where
    by : (clear same : Bool) → cond clear (cond same 0 2) 1 ≤ 2
    by true true = omega arith
    by true false = omega arith
    by false same = omega arith

pub harm_bound : (word marks codeword : List ℕ) → harm word marks codeword ≤ 2 * length word
harm_bound [] marks codeword = omega arith
harm_bound (s ∷ word) [] codeword = omega arith
harm_bound (s ∷ word) (m ∷ marks) [] = omega arith
harm_bound (s ∷ word) (m ∷ marks) (c ∷ codeword) = omega (arith, one_place s m c, harm_bound word marks codeword)

module _ (bytes bytes' : List ℕ) (pages pages' cells cells' : ℕ) (c : CodeModel) (p : ℕ) (r : Result ℕ Fault) where
  abbrev Small : Result ℕ Fault → Type 0
  Small x = IfOk x (λ n. n < 2 ^ 31)

  abbrev m : MediumModel
  m = packed bytes pages cells

  abbrev m' : MediumModel
  m' = packed bytes' pages' cells'

  pub written_small : (payload : List ℕ) → PackedFits bytes' pages' cells' → Written m m' c p payload r → Small r
  written_small payload fits w = by (payload_refusal m c p payload) w
    where
      by : (o : Option Fault) → MatchOption o ((r ≡ Ok (blanks (m'.page p))) × Changed m m' p (stored (m.page p) (recording c payload))) (λ f. (r ≡ Err (on_page f p)) × Unchanged m m') → Small r
      by None o =
          let long : length (m'.page p) ≡ cells' = length-map-range_with_len _ 0 cells' in
          subst Small (sym o.0) (omega (arith, count_by-le-length (λ s. nat_eq s 2) (m'.page p), long, fits.1.1))
      by (Some f) o = subst Small (sym o.0) tt

  harm_small : PackedFits bytes pages cells → (u : List ℕ) → page_harm m p (c.codeword u) < 2 ^ 31
  harm_small fits u =
      let long : length (m.page p) ≡ cells = length-map-range_with_len _ 0 cells in
      omega (arith, harm_bound (word_of m p) (marks_of m p) (c.codeword u), length-map (m.page p) value_of, long, fits.1.1)

  pub recalled_small : (payload payload' : List ℕ) → PackedFits bytes pages cells → Recalled m m' c p payload payload' r → Small r
  recalled_small payload payload' fits w = by (payload_refusal m c p payload) r refl w.1
    where
      by : (o : Option Fault) (r' : Result ℕ Fault) → r ≡ r' → MatchOption o (MatchResult r' (λ h. (u : List ℕ) × Restores m c p u × (payload' ≡ bytes_of (page_bytes c.message_len) u) × (h ≡ page_harm m p (c.codeword u))) (λ f. Unrestored m c p f × (payload' ≡ payload))) (λ f. (r' ≡ Err (on_page f p)) × (payload' ≡ payload)) → Small r
      by None (Ok h) e o = subst Small (sym e) (subst (λ n. n < 2 ^ 31) (sym o.3) (harm_small fits o.0))
      by None (Err f) e o = subst Small (sym e) tt
      by (Some f) r' e o = subst Small (sym (e ∙ o.0)) tt

  pub patrolled_small : PackedFits bytes pages cells → Patrolled m m' c p r → Small r
  patrolled_small fits w = by (page_refusal m p) r refl w
    where
      by : (o : Option Fault) (r' : Result ℕ Fault) → r ≡ r' → MatchOption o (MatchResult r' (λ h. (u : List ℕ) × Restores m c p u × Changed m m' p (stored (m.page p) (c.codeword u)) × (h ≡ page_harm m p (c.codeword u))) (λ f. Unrestored m c p f × Unchanged m m')) (λ f. (r' ≡ Err (on_page f p)) × Unchanged m m') → Small r
      by None (Ok h) e o = subst Small (sym e) (subst (λ n. n < 2 ^ 31) (sym o.3) (harm_small fits o.0))
      by None (Err f) e o = subst Small (sym e) tt
      by (Some f) r' e o = subst Small (sym (e ∙ o.0)) tt

pub recalled_kept : (before after : MediumModel) (c : CodeModel) (p : ℕ) (payload payload' : List ℕ) (r : Result ℕ Fault) → Recalled before after c p payload payload' r → IfErr r (λ _. payload' ≡ payload)
recalled_kept before after c p payload payload' r w = by (payload_refusal before c p payload) r w.1
  where
    by : (o : Option Fault) (r' : Result ℕ Fault) → MatchOption o (MatchResult r' (λ h. (u : List ℕ) × Restores before c p u × (payload' ≡ bytes_of (page_bytes c.message_len) u) × (h ≡ page_harm before p (c.codeword u))) (λ f. Unrestored before c p f × (payload' ≡ payload))) (λ f. (r' ≡ Err (on_page f p)) × (payload' ≡ payload)) → IfErr r' (λ _. payload' ≡ payload)
    by None (Ok h) o = tt
    by None (Err f) o = o.1
    by (Some g) (Ok h) o = tt
    by (Some g) (Err f) o = o.1
