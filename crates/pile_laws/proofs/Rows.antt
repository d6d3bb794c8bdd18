-- The labels that the stages' codewords have in a column are a row of the chain. Assumes nothing.
use Rattle.std.proofs.Common.{◌≡◌, ℕ, zero, suc, ◌+◌, ◌*◌, ◌^◌, ◌<◌, ◌≤◌, List, [], ◌∷◌, length, get_or, take, sym, refl, ap, ◌∙◌, subst, mul-suc, arith}
use Rattle.std.specs.List.{AllByRecursion}
use Rattle.std.proofs.ByRecursion.{All-append, All-get_or}
use Rattle.std.proofs.lemmas.List.{get_or-map, length-append, length-map, take-map}
use Rattle.chains.specs.Model.{ChainModel, LawfulChain, LabelsFrom, Row}
use Rattle.codes.specs.Model.{CodeModel, Message, Symbols}
use Rattle.pile_laws.specs.Build.{encoded, labels_at, laid_from}
use Rattle.pile_laws.specs.Fit.{EachLawful}
use Rattle.pile_laws.specs.Stages.{no_code}
use Rattle.pile_laws.proofs.Columns.{row_word}
use Rattle.pile_laws.proofs.Fitting.{Fitting, fitting_at, fitting_length, lawful_at}
use Rattle.pile_laws.proofs.Messages.{EachMessage}

labels_from_at : (width : ℕ → ℕ) (i : ℕ) (us : List ℕ) → ((k : ℕ) → k < length us → get_or us k 0 < 2 ^ width (i + k)) → LabelsFrom width i us
labels_from_at width i [] a = tt
labels_from_at width i (x ∷ us) a =
    let here : i + 0 ≡ i = omega arith in
    let on : (k : ℕ) → i + suc k ≡ suc i + k = λ k. omega arith in
    (subst (λ (n : ℕ). x < 2 ^ width n) here (a 0 (omega arith)), labels_from_at width (suc i) us (λ k l. subst (λ (n : ℕ). get_or us k 0 < 2 ^ width n) (on k) (a (suc k) (omega arith))))

-- words of n symbols for the first codes
abbrev pub WordsOf : List CodeModel → ℕ → List (List ℕ) → Type 0
WordsOf cs n words = (k : ℕ) → k < length words → Symbols (get_or cs k no_code).width n (get_or words k [])

pub label_at : (words : List (List ℕ)) (k j : ℕ) → k < length words → get_or (labels_at words j) k 0 ≡ get_or (get_or words k []) j 0
label_at words k j l = get_or-map (λ w. get_or w j 0) words k [] 0 l

pub labels_before : (words : List (List ℕ)) (k j : ℕ) → take k (labels_at words j) ≡ labels_at (take k words) j
labels_before words k j = take-map (λ w. get_or w j 0) k words

module _ (h : ChainModel) (n : ℕ) (cs : List CodeModel) (fit : Fitting h n 1 cs) (words : List (List ℕ)) (of : WordsOf cs n words) (few : length words ≤ length cs) where
  pub labels_fit : (j : ℕ) → j < n → LabelsFrom h.width 1 (labels_at words j)
  labels_fit j l = labels_from_at h.width 1 (labels_at words j) small
    where
      small : (k : ℕ) → k < length (labels_at words j) → get_or (labels_at words j) k 0 < 2 ^ h.width (1 + k)
      small k lk =
          let lw : k < length words = omega (arith, length-map words (λ w. get_or w j 0)) in
          let s = of k lw in
          let below = All-get_or (λ x. x < 2 ^ (get_or cs k no_code).width) (get_or words k []) j 0 (omega (arith, s.0)) s.1 in
          let wide = fitting_at h n 1 k cs (omega arith) fit in
          subst (λ (x : ℕ). x < 2 ^ h.width (1 + k)) (sym (label_at words k j lw)) (subst (λ (m : ℕ). get_or (get_or words k []) j 0 < 2 ^ m) wide.1 below)

  pub row_at : (law : LawfulChain h) → length words ≡ length cs → (j : ℕ) → j < n → Row h (labels_at words j)
  row_at law all j l =
      (length-map words (λ w. get_or w j 0) ∙ all ∙ omega (arith, fitting_length h n 1 cs (omega arith) (omega arith) fit), labels_fit j l)

  pub laid_cells : (law : LawfulChain h) → length words ≡ length cs → (k j : ℕ) → j + k ≤ n → (length (laid_from h words k j) ≡ h.breadth * k) × AllByRecursion (λ x. x < 2) (laid_from h words k j)
  laid_cells law all zero j l = (omega arith, tt)
  laid_cells law all (suc k) j l =
      let cells = law.words (labels_at words j) (row_at law all j (omega arith)) in
      let rest = laid_cells law all k (suc j) (omega arith) in
      (length-append (row_word h words j) (laid_from h words k (suc j)) ∙ omega (arith, cells.0, rest.0, mul-suc h.breadth k), All-append (λ x. x < 2) (row_word h words j) (laid_from h words k (suc j)) cells.1 rest.1)

-- the codewords of messages
pub length_encoded : (cs : List CodeModel) (us : List (List ℕ)) → EachMessage cs us → length (encoded cs us) ≡ length cs
length_encoded [] us e = refl
length_encoded (c ∷ cs) [] e = absurd e
length_encoded (c ∷ cs) (u ∷ us) e = ap suc (length_encoded cs us e.1)

pub encoded_at : (cs : List CodeModel) (us : List (List ℕ)) (k : ℕ) → k < length cs → EachMessage cs us → (get_or (encoded cs us) k [] ≡ (get_or cs k no_code).codeword (get_or us k [])) × Message (get_or cs k no_code) (get_or us k [])
encoded_at [] us k l e = absurd (omega arith)
encoded_at (c ∷ cs) [] k l e = absurd e
encoded_at (c ∷ cs) (u ∷ us) zero l e = (refl, e.0)
encoded_at (c ∷ cs) (u ∷ us) (suc k) l e = encoded_at cs us k (omega arith) e.1

pub encoded_words : (h : ChainModel) (n : ℕ) (cs : List CodeModel) (us : List (List ℕ)) → Fitting h n 1 cs → EachLawful cs → EachMessage cs us → WordsOf cs n (encoded cs us)
encoded_words h n cs us fit laws e k l =
    let lc : k < length cs = omega (arith, length_encoded cs us e) in
    let at = encoded_at cs us k lc e in
    let c = get_or cs k no_code in
    let s = (lawful_at k cs lc laws).symbols (get_or us k []) at.1 in
    subst (Symbols c.width n) (sym at.0) (s.0 ∙ (fitting_at h n 1 k cs lc fit).2, s.1)
