-- Differences, harm and score of whole words as sums over the columns. Assumes nothing.
use Rattle.std.proofs.Common.{◌≡◌, ℕ, zero, suc, ◌+◌, ◌-◌, ◌*◌, ◌<◌, ◌≤◌, cond, eqb, List, [], ◌∷◌, ◌++◌, length, get_or, take, drop, None, Option, sym, refl, ap, ◌∙◌, ap₂, mul-suc, mul-add, add-one, arith}
use borrow.Rule.Slice.PartMut.{put_mid}
use Rattle.std.proofs.lemmas.List.{append_assoc, append-nil, length-drop, length-take-le, take-append-drop, drop-drop}
use Rattle.std.proofs.lemmas.Slice.{take-put_mid}
use Rattle.algebra.specs.Sums.{total}
use Rattle.algebra.proofs.Sums.{total_same}
use Rattle.words.specs.Distance.{differences}
use Rattle.words.specs.Harm.{harm}
use Rattle.chains.specs.declared.chain.Estimate.{Estimate}
use Rattle.chains.specs.Model.{ChainModel}
use Rattle.stage_laws.specs.Rule.{score, score_at}
use Rattle.pile_laws.specs.Build.{labels_at, laid, laid_from}
use Rattle.pile_laws.specs.Stages.{column}

pub total_front : (f : ℕ → ℕ) (n : ℕ) → total f (suc n) ≡ f 0 + total (λ i. f (suc i)) n
total_front f zero = omega arith
total_front f (suc n) = omega (arith, total_front f n)

-- the terms from j on, with the first of them apart
total_from : (f : ℕ → ℕ) (j k : ℕ) → total (λ t. f (j + t)) (suc k) ≡ f j + total (λ t. f (suc j + t)) k
total_from f j k =
    let here : j + 0 ≡ j = omega arith in
    total_front (λ t. f (j + t)) k
    ∙ ap₂ ◌+◌ (ap f here) (total_same (λ t. f (j + suc t)) (λ t. f (suc j + t)) k (λ t l. ap f (omega arith)))

pub differences_total : (a b : List ℕ) (n : ℕ) → length a ≡ n → length b ≡ n → differences a b ≡ total (λ j. cond (eqb (get_or a j 0) (get_or b j 0)) 0 1) n
differences_total [] b zero la lb = refl
differences_total [] b (suc n) la lb = absurd (omega arith)
differences_total (x ∷ a) [] n la lb = absurd (omega arith)
differences_total (x ∷ a) (y ∷ b) zero la lb = absurd (omega arith)
differences_total (x ∷ a) (y ∷ b) (suc n) la lb =
    omega (arith, differences_total a b n (omega arith) (omega arith), total_front (λ j. cond (eqb (get_or (x ∷ a) j 0) (get_or (y ∷ b) j 0)) 0 1) n)

pub score_total : (d : ℕ) (es : List (Option Estimate)) (w : List ℕ) (n : ℕ) → length es ≡ n → length w ≡ n → score d es w ≡ total (λ j. score_at d (get_or es j None) (get_or w j 0)) n
score_total d [] w zero le lw = refl
score_total d [] w (suc n) le lw = absurd (omega arith)
score_total d (e ∷ es) [] n le lw = absurd (omega arith)
score_total d (e ∷ es) (x ∷ w) zero le lw = absurd (omega arith)
score_total d (e ∷ es) (x ∷ w) (suc n) le lw =
    omega (arith, score_total d es w n (omega arith) (omega arith), total_front (λ j. score_at d (get_or (e ∷ es) j None) (get_or (x ∷ w) j 0)) n)

differences_append : (a b xs ys : List ℕ) → length a ≡ length b → differences (a ++ xs) (b ++ ys) ≡ differences a b + differences xs ys
differences_append [] [] xs ys l = omega arith
differences_append [] (y ∷ b) xs ys l = absurd (omega arith)
differences_append (x ∷ a) [] xs ys l = absurd (omega arith)
differences_append (x ∷ a) (y ∷ b) xs ys l = omega (arith, differences_append a b xs ys (omega arith))

pub harm_nothing : (w m : List ℕ) → harm w m [] ≡ 0
harm_nothing [] m = refl
harm_nothing (x ∷ w) [] = refl
harm_nothing (x ∷ w) (y ∷ m) = refl

harm_append : (w m c ws ms cs : List ℕ) → length m ≡ length w → length c ≡ length w → harm (w ++ ws) (m ++ ms) (c ++ cs) ≡ harm w m c + harm ws ms cs
harm_append [] [] [] ws ms cs lm lc = omega arith
harm_append [] (y ∷ m) c ws ms cs lm lc = absurd (omega arith)
harm_append [] [] (z ∷ c) ws ms cs lm lc = absurd (omega arith)
harm_append (x ∷ w) [] c ws ms cs lm lc = absurd (omega arith)
harm_append (x ∷ w) (y ∷ m) [] ws ms cs lm lc = absurd (omega arith)
harm_append (x ∷ w) (y ∷ m) (z ∷ c) ws ms cs lm lc = omega (arith, harm_append w m c ws ms cs (omega arith) (omega arith))

-- one column and what lies behind it
cut_column : (b j : ℕ) (cells : List ℕ) → drop (b * j) cells ≡ column b j cells ++ drop (b * suc j) cells
cut_column b j cells =
    let next : b * j + b ≡ b * suc j = sym (mul-suc b j) in
    sym (take-append-drop b (drop (b * j) cells))
    ∙ ap (λ x. column b j cells ++ x) (drop-drop b (b * j) cells ∙ ap (λ (n : ℕ). drop n cells) next)

pub length_column : (b j k : ℕ) (cells : List ℕ) → length cells ≡ b * k → j < k → length (column b j cells) ≡ b
length_column b j k cells l h =
    let here : j + suc (k - suc j) ≡ k = omega arith in
    length-take-le b (drop (b * j) cells) (omega (arith, length-drop (b * j) cells, mul-add b j (suc (k - suc j)), mul-suc b (k - suc j), ap (λ (n : ℕ). b * n) here))

module _ (h : ChainModel) (words : List (List ℕ)) where
  abbrev pub row_word : ℕ → List ℕ
  row_word j = h.word (labels_at words j)

  module _ (b : ℕ) (word marks : List ℕ) where
    abbrev pub column_harm : ℕ → ℕ
    column_harm j = harm (column b j word) (column b j marks) (row_word j)

    harm_laid_from : (k j : ℕ) → length word ≡ b * (j + k) → length marks ≡ b * (j + k) → ((t : ℕ) → t < j + k → length (row_word t) ≡ b) → harm (drop (b * j) word) (drop (b * j) marks) (laid_from h words k j) ≡ total (λ t. column_harm (j + t)) k
    harm_laid_from zero j lw lm rows = harm_nothing (drop (b * j) word) (drop (b * j) marks)
    harm_laid_from (suc k) j lw lm rows =
        let on : j + suc k ≡ suc j + k = omega arith in
        let cw = length_column b j (j + suc k) word lw (omega arith) in
        let cm = length_column b j (j + suc k) marks lm (omega arith) in
        let more : (n : ℕ) → n ≡ b * (j + suc k) → n ≡ b * (suc j + k) = λ n e. e ∙ ap (λ (i : ℕ). b * i) on in
        ap₂ (λ x y. harm x y (row_word j ++ laid_from h words k (suc j))) (cut_column b j word) (cut_column b j marks)
        ∙ harm_append (column b j word) (column b j marks) (row_word j) _ _ _ (cm ∙ sym cw) (rows j (omega arith) ∙ sym cw)
        ∙ ap (λ n. column_harm j + n) (harm_laid_from k (suc j) (more _ lw) (more _ lm) (λ t l. rows t (omega arith)))
        ∙ sym (total_from column_harm j k)

    pub harm_laid : (n : ℕ) → length word ≡ b * n → length marks ≡ b * n → ((t : ℕ) → t < n → length (row_word t) ≡ b) → harm word marks (laid h n words) ≡ total column_harm n
    harm_laid n lw lm rows =
        let none : b * 0 ≡ 0 = omega arith in
        let all : n ≡ 0 + n = omega arith in
        let long : (m : ℕ) → m ≡ b * n → m ≡ b * (0 + n) = λ m e. e ∙ ap (λ (i : ℕ). b * i) all in
        ap₂ (λ x y. harm x y (laid h n words)) (sym (ap (λ (i : ℕ). drop i word) none)) (sym (ap (λ (i : ℕ). drop i marks) none))
        ∙ harm_laid_from n 0 (long _ lw) (long _ lm) (λ t l. rows t (omega arith))
        ∙ total_same (λ t. column_harm (0 + t)) column_harm n (λ t l. ap column_harm (omega arith))

differences_laid_from : (h : ChainModel) (us vs : List (List ℕ)) (b k j : ℕ) → ((t : ℕ) → t < j + k → length (row_word h us t) ≡ b) → ((t : ℕ) → t < j + k → length (row_word h vs t) ≡ b) → differences (laid_from h us k j) (laid_from h vs k j) ≡ total (λ t. differences (row_word h us (j + t)) (row_word h vs (j + t))) k
differences_laid_from h us vs b zero j lu lv = refl
differences_laid_from h us vs b (suc k) j lu lv =
    differences_append (row_word h us j) (row_word h vs j) _ _ (lu j (omega arith) ∙ sym (lv j (omega arith)))
    ∙ ap (λ n. differences (row_word h us j) (row_word h vs j) + n) (differences_laid_from h us vs b k (suc j) (λ t l. lu t (omega arith)) (λ t l. lv t (omega arith)))
    ∙ sym (total_from (λ t. differences (row_word h us t) (row_word h vs t)) j k)

pub differences_laid : (h : ChainModel) (us vs : List (List ℕ)) (b n : ℕ) → ((t : ℕ) → t < n → length (row_word h us t) ≡ b) → ((t : ℕ) → t < n → length (row_word h vs t) ≡ b) → differences (laid h n us) (laid h n vs) ≡ total (λ t. differences (row_word h us t) (row_word h vs t)) n
differences_laid h us vs b n lu lv =
    let apart : ℕ → ℕ = λ t. differences (row_word h us t) (row_word h vs t) in
    differences_laid_from h us vs b n 0 (λ t l. lu t (omega arith)) (λ t l. lv t (omega arith))
    ∙ total_same (λ t. apart (0 + t)) apart n (λ t l. ap apart (omega arith))

-- one column more at the end
laid_from_push : (h : ChainModel) (words : List (List ℕ)) (k j : ℕ) → laid_from h words (suc k) j ≡ laid_from h words k j ++ row_word h words (j + k)
laid_from_push h words zero j = let here : j ≡ j + 0 = omega arith in append-nil (row_word h words j) ∙ ap (row_word h words) here
laid_from_push h words (suc k) j =
    let on : suc j + k ≡ j + suc k = omega arith in
    ap (λ x. row_word h words j ++ x) (laid_from_push h words k (suc j) ∙ ap (λ (m : ℕ). laid_from h words k (suc j) ++ row_word h words m) on)
    ∙ sym (append_assoc (row_word h words j) (laid_from h words k (suc j)) (row_word h words (j + suc k)))

pub laid_more : (h : ChainModel) (words : List (List ℕ)) (b j : ℕ) (cells ys : List ℕ) → b * j ≤ length cells → length ys ≡ b → ys ≡ row_word h words j → take (b * j) cells ≡ laid h j words → take (b * (j + 1)) (put_mid (b * j) b cells ys) ≡ laid h (j + 1) words
laid_more h words b j cells ys l ly is front =
    let here : 0 + j ≡ j = omega arith in
    take-put_mid (b * j) b cells ys (b * (j + 1)) (omega (arith, mul-add b j 1, ly)) l
    ∙ ap₂ (λ x y. x ++ y) front is
    ∙ ap (λ (m : ℕ). laid h j words ++ row_word h words m) (sym here)
    ∙ sym (laid_from_push h words j 0)
    ∙ ap (λ (m : ℕ). laid h m words) (sym (add-one j))
