-- What one step of a life leaves. Assumes nothing.
use Rattle.std.proofs.Common.{◌≡◌, ℕ, zero, suc, ◌^◌, ◌<◌, ◌≤◌, Bool, true, false, cond, eqb, List, [], ◌∷◌, length, get_or, set, sym, refl, ◌∙◌, subst, le_of_suc-le-suc, not-suc-le-zero, arith}
use native.Mathlib.Decide.{ℕ_discrete}
use Rattle.std.specs.List.{AllByRecursion}
use Rattle.std.proofs.ByRecursion.{All-set}
use Rattle.std.proofs.lemmas.List.{length-set}
use Rattle.codes.specs.Model.{CodeModel, Lawful, Message}
use Rattle.media_laws.specs.Model.{MediumModel, LawfulMedium, stored, Unchanged, Changed}
use Rattle.media_laws.proofs.Packs.{length_stored}
use Rattle.memory_laws.specs.Calls.{Joins}
use Rattle.memory_laws.specs.Payload.{carrying, page_bytes}
use Rattle.memory_laws.proofs.Payloads.{length_carrying, carrying_small}

-- the same pages and cells, and lawful
pub record Follows (m m' : MediumModel) : Type 0 where
  pub lawful : LawfulMedium m'
  pub pages : m'.pages ≡ m.pages
  pub breadth : m'.breadth ≡ m.breadth

follows : (m m' : MediumModel) → LawfulMedium m → m'.pages ≡ m.pages → m'.breadth ≡ m.breadth → ((q : ℕ) → q < m.pages → (length (m'.page q) ≡ m.breadth) × AllByRecursion (λ s. s < 3) (m'.page q)) → Follows m m'
follows m m' h ep eb states =
    record {
      lawful = record {
        some_pages = omega (arith, ep, h.some_pages);
        few_pages = omega (arith, ep, h.few_pages);
        some_cells = omega (arith, eb, h.some_cells);
        few_cells = omega (arith, eb, h.few_cells);
        states = λ q l. let s = states q (omega (arith, ep)) in (s.0 ∙ sym eb, s.1);
      };
      pages = ep;
      breadth = eb;
    }

pub unchanged_follows : (m m' : MediumModel) → LawfulMedium m → Unchanged m m' → Follows m m'
unchanged_follows m m' h u =
    follows m m' h u.pages u.breadth (λ q l. subst (λ (xs : List ℕ). (length xs ≡ m.breadth) × AllByRecursion (λ s. s < 3) xs) (sym (u.states q l)) (h.states q l))

pub changed_follows : (m m' : MediumModel) (p : ℕ) (states : List ℕ) → LawfulMedium m → Changed m m' p states → length states ≡ m.breadth → AllByRecursion (λ s. s < 3) states → Follows m m'
changed_follows m m' p states h u long small = follows m m' h u.pages u.breadth (λ q l. by q l (ℕ_discrete q p))
  where
    by : (q : ℕ) → q < m.pages → Dec (q ≡ p) → (length (m'.page q) ≡ m.breadth) × AllByRecursion (λ s. s < 3) (m'.page q)
    by q l (yes e) = subst (λ (k : ℕ). (length (m'.page k) ≡ m.breadth) × AllByRecursion (λ s. s < 3) (m'.page k)) (sym e) (subst (λ (xs : List ℕ). (length xs ≡ m.breadth) × AllByRecursion (λ s. s < 3) xs) (sym u.here) (long, small))
    by q l (no ne) = subst (λ (xs : List ℕ). (length xs ≡ m.breadth) × AllByRecursion (λ s. s < 3) xs) (sym (u.elsewhere q l ne)) (h.states q l)

stored_small : (states cells : List ℕ) → AllByRecursion (λ s. s < 3) states → AllByRecursion (λ v. v < 2) cells → AllByRecursion (λ s. s < 3) (stored states cells)
stored_small [] cells a b = tt
stored_small (s ∷ states) [] a b = a
stored_small (s ∷ states) (v ∷ cells) a b =
    ((elim (eqb s 2) as (λ t. cond t 2 v < 3) [ true ↦ omega arith | false ↦ omega (arith, b.0) ]), stored_small states cells a.1 b.1)

-- what is readable after a put is what was put
pub stored_matches : (states cells : List ℕ) (i : ℕ) → i < length states → length cells ≡ length states → (get_or (stored states cells) i 2 ≡ 2 → ⊥) → get_or (stored states cells) i 2 ≡ get_or cells i 0
stored_matches [] cells i l e ne = absurd (not-suc-le-zero l)
stored_matches (s ∷ states) [] i l e ne = absurd (omega arith)
stored_matches (s ∷ states) (v ∷ cells) zero l e ne = by (eqb s 2) ne
  where
    by : (t : Bool) → (cond t 2 v ≡ 2 → ⊥) → cond t 2 v ≡ v
    by true no-blank = absurd (no-blank refl)
    by false no-blank = refl
stored_matches (s ∷ states) (v ∷ cells) (suc i) l e ne = stored_matches states cells i (le_of_suc-le-suc l) (omega arith) ne

-- a codeword of a code that fits the medium, put to a page
pub put_follows : (m m' : MediumModel) (c : CodeModel) (p : ℕ) (u : List ℕ) → LawfulMedium m → Lawful c → Joins m c → p < m.pages → Message c u → Changed m m' p (stored (m.page p) (c.codeword u)) → Follows m m'
put_follows m m' c p u h lc j l mu changed =
    let page = h.states p l in
    let bits = subst (λ (w : ℕ). AllByRecursion (λ v. v < 2 ^ w) (c.codeword u)) j.bits (lc.symbols u mu).1 in
    changed_follows m m' p (stored (m.page p) (c.codeword u)) h changed (length_stored (m.page p) (c.codeword u) ∙ page.0) (stored_small (m.page p) (c.codeword u) page.1 bits)

pub wear_follows : (m m' : MediumModel) (p i s : ℕ) → LawfulMedium m → p < m.pages → s ≤ 2 → Changed m m' p (set (m.page p) i s) → Follows m m'
wear_follows m m' p i s h l small changed =
    let page = h.states p l in
    changed_follows m m' p (set (m.page p) i s) h changed (length-set (m.page p) i s ∙ page.0) (All-set (λ x. x < 3) (m.page p) i s (omega arith) page.1)

-- a payload of a page's bytes makes a message
pub carrying_message : (c : CodeModel) (payload : List ℕ) → c.width ≡ 1 → length payload ≡ page_bytes c.message_len → Message c (carrying c.message_len payload)
carrying_message c payload bits long =
    let k = c.message_len in
    (length_carrying k payload (omega (arith, long)), subst (λ (w : ℕ). AllByRecursion (λ x. x < 2 ^ w) (carrying k payload)) (sym bits) (carrying_small k payload))
