-- A page is corrected exactly where a message restores it, over every life. Assumes nothing.
use Rattle.std.proofs.Common.{◌≡◌, ℕ, ◌+◌, ◌-◌, ◌*◌, ◌<◌, ◌≤◌, List, length, get_or, drop, None, Ok, Err, Result, sym, ap, ◌∙◌, inl, inr, ⊎_elim, arith}
use Rattle.std.specs.Result as results
use Rattle.std.proofs.ByRecursion.{All-get_or}
use Rattle.std.proofs.lemmas.Bool.{cases_lt}
use Rattle.std.proofs.lemmas.List.{get_or-drop, get_or_past, length-map}
use Rattle.std.proofs.lemmas.Option.{MatchOption-at_none}
use Rattle.words.specs.declared.fault.Fault.{Fault}
use Rattle.codes.specs.Model.{CodeModel, Lawful, Near}
use Rattle.codes.proofs.Nearness.{only_one_near}
use Rattle.media_laws.specs.Model.{MediumModel, LawfulMedium, value_of, mark_of, stored, Unchanged, Changed}
use Rattle.media.specs.Promises.{page_refusal}
use Rattle.memory_laws.specs.Calls.{Joins, Recalled, Patrolled, Restores, Unrestored, word_of, marks_of, page_harm, payload_refusal}
use Rattle.memory_laws.specs.Lives.{Step, Life, Corrects, CorrectsEach}
use Rattle.memory_laws.specs.Payload.{SpareClear, bytes_of, page_bytes}
use Rattle.memory_laws.proofs.Lives.{life_follows, joins_on}
use Rattle.memory_laws.proofs.Outcomes.{page_there, payload_passed}

-- each spare bit of a message that has none set is 0
spare_zero : (k : ℕ) (u : List ℕ) → SpareClear k u → (bit : ℕ) → 8 * page_bytes k ≤ bit → get_or u bit 0 ≡ 0
spare_zero k u clear bit l = at ∙ ⊎_elim inside past (cases_lt (bit - 8 * page_bytes k) (length (drop (8 * page_bytes k) u)))
  where
    at : get_or u bit 0 ≡ get_or (drop (8 * page_bytes k) u) (bit - 8 * page_bytes k) 0
    at = let same : bit ≡ 8 * page_bytes k + (bit - 8 * page_bytes k) = omega arith in ap (λ b. get_or u b 0) same ∙ sym (get_or-drop (8 * page_bytes k) u (bit - 8 * page_bytes k) 0)

    inside : bit - 8 * page_bytes k < length (drop (8 * page_bytes k) u) → get_or (drop (8 * page_bytes k) u) (bit - 8 * page_bytes k) 0 ≡ 0
    inside h = All-get_or (λ b. b ≡ 0) (drop (8 * page_bytes k) u) (bit - 8 * page_bytes k) 0 h clear

    past : length (drop (8 * page_bytes k) u) ≤ bit - 8 * page_bytes k → get_or (drop (8 * page_bytes k) u) (bit - 8 * page_bytes k) 0 ≡ 0
    past h = get_or_past (drop (8 * page_bytes k) u) (bit - 8 * page_bytes k) 0 h

module _ (c : CodeModel) (lc : Lawful c) (m : MediumModel) (h : LawfulMedium m) (j : Joins m c) (p : ℕ) (within : p < m.pages) where
  pub only : (u v : List ℕ) → Near c (word_of m p) (marks_of m p) u → Near c (word_of m p) (marks_of m p) v → v ≡ u
  only u v nu nv =
      let page = (h.states p within).0 ∙ sym j.same_length in
      only_one_near c lc (word_of m p) (marks_of m p) (length-map (m.page p) value_of ∙ page) (length-map (m.page p) mark_of ∙ page) v u nv nu

  -- no page that a message restores is refused
  pub not_both : (u : List ℕ) → Restores m c p u → (f : Fault) → Unrestored m c p f → ⊥
  not_both u ru f (inl o) = o.3 u ru.0
  not_both u ru f (inr o) =
      let zero = spare_zero c.message_len u ru.1 o.2 o.4.spare in
      omega (arith, o.4.set, ap (λ x. get_or x o.2 0) (only o.0 u o.1 ru.0), zero)

  read_exactly : (m' : MediumModel) (buffer buffer' : List ℕ) (r : Result ℕ Fault) → payload_refusal m c p buffer ≡ None → Recalled m m' c p buffer buffer' r → Corrects c m p (λ u. buffer' ≡ bytes_of (page_bytes c.message_len) u) r
  read_exactly m' buffer buffer' r none w = by r (MatchOption-at_none _ _ none w.1)
    where
      by : (r : Result ℕ Fault) → results.MatchResult r (λ h'. (u : List ℕ) × Restores m c p u × (buffer' ≡ bytes_of (page_bytes c.message_len) u) × (h' ≡ page_harm m p (c.codeword u))) (λ f. Unrestored m c p f × (buffer' ≡ buffer)) → Corrects c m p (λ u. buffer' ≡ bytes_of (page_bytes c.message_len) u) r
      by (Ok h') o = (o.0, o.1, λ v nv. only o.0 v o.1.0 nv, o.2, o.3)
      by (Err f) o = λ u ru. not_both u ru f o.0

  patrol_exactly : (m' : MediumModel) (r : Result ℕ Fault) → page_refusal m p ≡ None → Patrolled m m' c p r → Corrects c m p (λ u. Changed m m' p (stored (m.page p) (c.codeword u))) r
  patrol_exactly m' r none w = by r (MatchOption-at_none _ _ none w)
    where
      by : (r : Result ℕ Fault) → results.MatchResult r (λ h'. (u : List ℕ) × Restores m c p u × Changed m m' p (stored (m.page p) (c.codeword u)) × (h' ≡ page_harm m p (c.codeword u))) (λ f. Unrestored m c p f × Unchanged m m') → Corrects c m p (λ u. Changed m m' p (stored (m.page p) (c.codeword u))) r
      by (Ok h') o = (o.0, o.1, λ v nv. only o.0 v o.1.0 nv, o.2, o.3)
      by (Err f) o = λ u ru. not_both u ru f o.0

pub corrects_each : (c : CodeModel) → Lawful c → {m m' : MediumModel} → LawfulMedium m → Joins m c → (life : Life c m m') → CorrectsEach life
corrects_each c lc h j Life.begins = tt
corrects_each c lc h j (Life.goes_on life (Step.writes q written r w)) = corrects_each c lc h j life
corrects_each c lc {m} h j (Life.goes_on {m' = a} {m'' = b} life (Step.reads q x x' r w)) =
    let f = life_follows c lc h j life in
    (λ none. read_exactly c lc a f.lawful (joins_on c lc m a f j) q (payload_passed a c q x none).0 b x x' r none w, corrects_each c lc h j life)
corrects_each c lc {m} h j (Life.goes_on {m' = a} {m'' = b} life (Step.patrols q r w)) =
    let f = life_follows c lc h j life in
    (λ none. patrol_exactly c lc a f.lawful (joins_on c lc m a f j) q (page_there a q none) b r none w, corrects_each c lc h j life)
corrects_each c lc h j (Life.goes_on life (Step.wears q i s r w)) = corrects_each c lc h j life
