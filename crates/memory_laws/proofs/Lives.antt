-- Over every life of a memory, what was written comes back while the harm stays below the reach. Assumes nothing.
use Rattle.std.proofs.Common.{◌≡◌, ℕ, ◌<◌, Bool, true, false, ◌&&◌, eqb, ◌⊎◌, List, get_or, set, is_ok, MatchBool, Result, sym, refl, ap, ◌∙◌, subst, ap₂, inl, inr, ⊎_elim, arith}
use native.Mathlib.Decide.{ℕ_discrete}
use Rattle.std.proofs.lemmas.List.{length-map, get_or-set_other}
use Rattle.std.proofs.lemmas.Bool.{and_parts, eq-eqb, ne_eqb}
use Rattle.std.proofs.lemmas.Bool.Decides.{when_true, when_false}
use Rattle.words.specs.declared.fault.Fault.{Fault}
use Rattle.codes.specs.Model.{CodeModel, Lawful, Near}
use Rattle.codes.proofs.Nearness.{only_one_near}
use Rattle.media_laws.specs.Model.{MediumModel, LawfulMedium, value_of, mark_of, stored, Unchanged, Changed}
use Rattle.memory_laws.specs.Calls.{Joins, word_of, marks_of, page_harm, recording}
use Rattle.memory_laws.specs.Lives.{Step, Life, LastWrite, PatrolsNear, WornSince}
use Rattle.memory_laws.specs.Payload.{carrying}
use Rattle.memory_laws.proofs.Outcomes.{PagePayload, Outcome, PatrolAccepted, write_outcome, patrol_outcome, wear_outcome}
use Rattle.memory_laws.proofs.Steps.{Follows, unchanged_follows, put_follows, wear_follows, stored_matches, carrying_message}

module _ (c : CodeModel) (lc : Lawful c) where
  -- every step keeps the medium lawful
  step_follows : (m m' : MediumModel) → LawfulMedium m → Joins m c → Step c m m' → Follows m m'
  step_follows m m' h j (Step.writes p payload r w) =
      ⊎_elim (λ o. put_follows m m' c p (carrying c.message_len payload) h lc j o.1.0 (carrying_message c payload j.bits o.1.1.0.0) o.1.1.1) (λ o. unchanged_follows m m' h o.1) (write_outcome m m' c p payload r w)
  step_follows m m' h j (Step.reads p b b' r w) = unchanged_follows m m' h w.0
  step_follows m m' h j (Step.patrols p r w) =
      ⊎_elim (λ o. put_follows m m' c p o.1.1.0 h lc j o.1.0 o.1.1.1.0.0 o.1.1.2) (λ o. unchanged_follows m m' h o.1) (patrol_outcome m m' c p r w)
  step_follows m m' h j (Step.wears p i s r w) =
      ⊎_elim (λ o. wear_follows m m' p i s h o.1.0 o.1.1.0 o.1.1.1) (λ o. unchanged_follows m m' h o.1) (wear_outcome m m' p i s r w)

  pub joins_on : (m m' : MediumModel) → Follows m m' → Joins m c → Joins m' c
  joins_on m m' f j = record { bits = j.bits; same_length = j.same_length ∙ sym f.breadth; some_byte = j.some_byte }

  pub life_follows : {m m' : MediumModel} → LawfulMedium m → Joins m c → Life c m m' → Follows m m'
  life_follows {m} h j Life.begins = record { lawful = h; pages = refl; breadth = refl }
  life_follows {m} h j (Life.goes_on {m' = a} {m'' = b} life step) =
      let before = life_follows h j life in
      let after = step_follows a b before.lawful (joins_on m a before j) step in
      record { lawful = after.lawful; pages = after.pages ∙ before.pages; breadth = after.breadth ∙ before.breadth }

both_true : (p q : ℕ) (t : Bool) → q ≡ p → t ≡ true → (eqb q p && t) ≡ true
both_true p q t e et = ap₂ ◌&&◌ (eq-eqb q p e) et

left_false : (p q : ℕ) (t : Bool) → (q ≡ p → ⊥) → (eqb q p && t) ≡ false
left_false p q t ne = ap (λ s. s && t) (ne_eqb q p ne)

right_false : (s t : Bool) → t ≡ false → (s && t) ≡ false
right_false true t e = e
right_false false t e = refl

and_false : (s t u : Bool) → (s && u) ≡ false → (s && (t && u)) ≡ false
and_false true t u e = right_false t u e
and_false false t u e = refl

-- a call on the page that was accepted; else one on another page, or one that was refused
by_page : {A U Q R : Type 0} (p q : ℕ) (r : Result R Fault) → Outcome r A U → (q ≡ p → A → (eqb q p && is_ok r) ≡ true → Q) → (((q ≡ p → ⊥) × A) ⊎ U → (eqb q p && is_ok r) ≡ false → Q) → Q
by_page {A} {U} {Q} p q r (inl o) here elsewhere = by (ℕ_discrete q p)
  where
    by : Dec (q ≡ p) → Q
    by (yes e) = here e o.1 (both_true p q (is_ok r) e o.0)
    by (no ne) = elsewhere (inl (ne, o.1)) (left_false p q (is_ok r) ne)
by_page p q r (inr o) here elsewhere = elsewhere (inr o.1) (right_false (eqb q p) (is_ok r) o.0)

from_false : {b : Bool} (X Y : Type 0) → b ≡ false → Y → MatchBool b X Y
from_false X Y e y = rw e y

from_true : {b : Bool} (X Y : Type 0) → b ≡ true → X → MatchBool b X Y
from_true X Y e x = rw e x

module _ (c : CodeModel) (lc : Lawful c) (p : ℕ) where
  -- the last accepted write was of a page's bytes
  pub last_payload : {m m' : MediumModel} (payload : List ℕ) (life : Life c m m') → LastWrite c p payload life → PagePayload c payload
  last_payload payload Life.begins lw = absurd lw
  last_payload payload (Life.goes_on {m' = a} {m'' = b} life (Step.writes q written r w)) lw =
      by_page p q r (write_outcome a b c q written r w)
      (λ e o t. subst (PagePayload c) (sym (when_true (payload ≡ written) (LastWrite c p payload life) t lw)) o.1.0)
      (λ _ f. last_payload payload life (when_false (payload ≡ written) (LastWrite c p payload life) f lw))
  last_payload payload (Life.goes_on life (Step.reads q b b' r w)) lw = last_payload payload life lw
  last_payload payload (Life.goes_on life (Step.patrols q r w)) lw = last_payload payload life lw
  last_payload payload (Life.goes_on life (Step.wears q i s r w)) lw = last_payload payload life lw

  -- the only message near a page from whose recording the harm is below the reach
  pub restored : (m : MediumModel) → LawfulMedium m → Joins m c → p < m.pages → (payload : List ℕ) → PagePayload c payload → page_harm m p (recording c payload) < c.distance → (u : List ℕ) → Near c (word_of m p) (marks_of m p) u → u ≡ carrying c.message_len payload
  restored m h j l payload pp near u nu =
      let page = (h.states p l).0 ∙ sym j.same_length in
      only_one_near c lc (word_of m p) (marks_of m p) (length-map (m.page p) value_of ∙ page) (length-map (m.page p) mark_of ∙ page) u (carrying c.message_len payload) nu (carrying_message c payload j.bits pp.0, near)

  abbrev Matches : MediumModel → List ℕ → ℕ → Type 0
  Matches m payload i = (get_or (m.page p) i 2 ≡ 2 → ⊥) → get_or (m.page p) i 2 ≡ get_or (recording c payload) i 0

  same_page : (m m' : MediumModel) (payload : List ℕ) (i : ℕ) → m'.page p ≡ m.page p → Matches m payload i → Matches m' payload i
  same_page m m' payload i e h = subst (λ (xs : List ℕ). (get_or xs i 2 ≡ 2 → ⊥) → get_or xs i 2 ≡ get_or (recording c payload) i 0) (sym e) h

  put_page : (m m' : MediumModel) → LawfulMedium m → Joins m c → p < m.pages → (payload : List ℕ) → PagePayload c payload → m'.page p ≡ stored (m.page p) (recording c payload) → (i : ℕ) → i < m.breadth → Matches m' payload i
  put_page m m' h j l payload pp e i li =
      let page = (h.states p l).0 in
      let long = (lc.symbols (carrying c.message_len payload) (carrying_message c payload j.bits pp.0)).0 in
      subst (λ (xs : List ℕ). (get_or xs i 2 ≡ 2 → ⊥) → get_or xs i 2 ≡ get_or (recording c payload) i 0) (sym e)
      (stored_matches (m.page p) (recording c payload) i (omega (arith, page)) (long ∙ j.same_length ∙ sym page))

  -- a page that no accepted call reached stays
  kept : (m m' : MediumModel) (q : ℕ) (states : List ℕ) → p < m.pages → ((q ≡ p → ⊥) × Changed m m' q states) ⊎ Unchanged m m' → m'.page p ≡ m.page p
  kept m m' q states l (inl o) = o.1.elsewhere p l (λ e. o.0 (sym e))
  kept m m' q states l (inr u) = u.states p l

  kept_patrol : (a b : MediumModel) (q : ℕ) → p < a.pages → ((q ≡ p → ⊥) × PatrolAccepted a b c q) ⊎ Unchanged a b → b.page p ≡ a.page p
  kept_patrol a b q l (inl o) = o.1.1.2.elsewhere p l (λ e. o.0 (sym e))
  kept_patrol a b q l (inr u) = u.states p l

  module _ {m : MediumModel} (h : LawfulMedium m) (j : Joins m c) (within : p < m.pages) (payload : List ℕ) (i : ℕ) (li : i < m.breadth) where
    -- the state before the last step of a life
    before : {a : MediumModel} → Life c m a → Follows m a
    before life = life_follows c lc h j life

    pub unworn_match : {m' : MediumModel} (life : Life c m m') → LastWrite c p payload life → PatrolsNear c p payload life → (WornSince c p i life → ⊥) → Matches m' payload i
    unworn_match Life.begins lw pn unworn = absurd lw
    unworn_match (Life.goes_on {m' = a} {m'' = b} life (Step.writes q written r w)) lw pn unworn =
        let f = before life in
        let la : p < a.pages = omega (arith, f.pages) in
        by_page p q r (write_outcome a b c q written r w)
        (λ e o t.
        let same = when_true (payload ≡ written) (LastWrite c p payload life) t lw in
        let here : b.page p ≡ stored (a.page p) (recording c payload) = subst (λ (k : ℕ). b.page k ≡ stored (a.page k) (recording c payload)) e (o.1.1.here ∙ ap (λ d. stored (a.page q) (recording c d)) (sym same)) in
        put_page a b f.lawful (joins_on c lc m a f j) la payload (subst (PagePayload c) (sym same) o.1.0) here i (omega (arith, f.breadth)))
        (λ o t.
        same_page a b payload i (kept a b q (stored (a.page q) (recording c written)) la (⊎_elim (λ x. inl (x.0, x.1.1.1)) inr o))
        (unworn_match life (when_false (payload ≡ written) (LastWrite c p payload life) t lw) (when_false (Unit {0}) (PatrolsNear c p payload life) t pn) (λ x. unworn (from_false ⊥ (WornSince c p i life) t x))))
    unworn_match (Life.goes_on {m' = a} {m'' = b} life (Step.reads q x x' r w)) lw pn unworn =
        let f = before life in
        same_page a b payload i (w.0.states p (omega (arith, f.pages))) (unworn_match life lw pn unworn)
    unworn_match (Life.goes_on {m' = a} {m'' = b} life (Step.patrols q r w)) lw pn unworn =
        let f = before life in
        let la : p < a.pages = omega (arith, f.pages) in
        let ja = joins_on c lc m a f j in
        let pp = last_payload payload life lw in
        let Was-near : Type 0 = (page_harm a p (recording c payload) < c.distance) × PatrolsNear c p payload life in
        by_page p q r (patrol_outcome a b c q r w)
        (λ e o t.
        let was = when_true Was-near (PatrolsNear c p payload life) t pn in
        let u = o.1.0 in
        let nu = subst (λ (k : ℕ). Near c (word_of a k) (marks_of a k) u) e o.1.1.0 in
        let is = restored a f.lawful ja la payload pp was.0 u nu in
        let here : b.page p ≡ stored (a.page p) (recording c payload) = subst (λ (k : ℕ). b.page k ≡ stored (a.page k) (recording c payload)) e (o.1.2.here ∙ ap (λ v. stored (a.page q) (c.codeword v)) is) in
        put_page a b f.lawful ja la payload pp here i (omega (arith, f.breadth)))
        (λ o t.
        same_page a b payload i (kept_patrol a b q la o)
        (unworn_match life lw (when_false Was-near (PatrolsNear c p payload life) t pn) (λ x. unworn (from_false ⊥ (WornSince c p i life) t x))))
    unworn_match (Life.goes_on {m' = a} {m'' = b} life (Step.wears q k s r w)) lw pn unworn =
        let f = before life in
        let la : p < a.pages = omega (arith, f.pages) in
        let Was : Type 0 = WornSince c p i life in
        by_page p q r (wear_outcome a b q k s r w)
        (λ e o t.
        let other : (k ≡ i → ⊥) = λ ki. unworn (from_true (Unit {0}) Was (both_true p q (eqb k i && is_ok r) e (both_true i k (is_ok r) ki (and_parts (eqb q p) (is_ok r) t).1)) tt) in
        let here : b.page p ≡ set (a.page p) k s = subst (λ (x : ℕ). b.page x ≡ set (a.page x) k s) e o.1.1.here in
        let at : get_or (b.page p) i 2 ≡ get_or (a.page p) i 2 = ap (λ xs. get_or xs i 2) here ∙ get_or-set_other (a.page p) k i s 2 (λ ik. other (sym ik)) in
        let was = unworn_match life lw pn (λ x. unworn (from_false (Unit {0}) Was (right_false (eqb q p) (eqb k i && is_ok r) (left_false i k (is_ok r) other)) x)) in
        λ readable. at ∙ was (λ blank. readable (at ∙ blank)))
        (λ o t.
        same_page a b payload i (kept a b q (set (a.page q) k s) la (⊎_elim (λ x. inl (x.0, x.1.1.1)) inr o))
        (unworn_match life lw pn (λ x. unworn (from_false (Unit {0}) Was (and_false (eqb q p) (eqb k i) (is_ok r) t) x))))
