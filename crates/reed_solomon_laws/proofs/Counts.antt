-- Harm and differences, counted by places. Assumes nothing.
use Rattle.std.proofs.Common.{◌≡◌, ℕ, zero, suc, ◌+◌, ◌*◌, ◌<◌, min, Bool, true, false, cond, ◌&&◌, eqb, ltb, ◌⊎◌, List, [], ◌∷◌, length, get_or, refl, ap, inl, inr, arith}
use Rattle.std.proofs.lemmas.Bool.{cases_Bool, ltb-true, ltb-false}
use Rattle.algebra.specs.Sums.{total, count}
use Rattle.algebra.proofs.Sums.{total_same}
use Rattle.words.specs.Distance.{differences}
use Rattle.words.specs.Harm.{harm, harm_at}

pub total_front : (f : ℕ → ℕ) (n : ℕ) → total f (suc n) ≡ f 0 + total (λ i. f (suc i)) n
total_front f zero = omega arith
total_front f (suc n) = omega (arith, total_front f n)

pub count_same : (a b : ℕ → Bool) (n : ℕ) → ((i : ℕ) → i < n → a i ≡ b i) → count a n ≡ count b n
count_same a b n h = total_same (λ i. cond (a i) 1 0) (λ i. cond (b i) 1 0) n (λ i l. ap (λ t. cond t 1 0) (h i l))

-- the places where two words of one length differ, and where they agree
pub differences_count : (a b : List ℕ) → length a ≡ length b → differences a b + count (λ j. eqb (get_or a j 0) (get_or b j 0)) (length a) ≡ length a
differences_count [] b l = refl
differences_count (x ∷ a) [] l = absurd (omega arith)
differences_count (x ∷ a) (y ∷ b) l =
    by (eqb x y) (differences_count a b (omega arith)) (total_front (λ j. cond (eqb (get_or (x ∷ a) j 0) (get_or (y ∷ b) j 0)) 1 0) (length a))
  where
    by : (t : Bool) → differences a b + count (λ j. eqb (get_or a j 0) (get_or b j 0)) (length a) ≡ length a →
        count (λ j. eqb (get_or (x ∷ a) j 0) (get_or (y ∷ b) j 0)) (suc (length a)) ≡ cond t 1 0 + count (λ j. eqb (get_or a j 0) (get_or b j 0)) (length a) →
        cond t 0 1 + differences a b + count (λ j. eqb (get_or (x ∷ a) j 0) (get_or (y ∷ b) j 0)) (suc (length a)) ≡ suc (length a)
    by true ih e = omega arith
    by false ih e = omega arith

-- a readable place that holds the codeword's symbol, and a readable place
abbrev pub right : (word marks codeword : List ℕ) → ℕ → Bool
right word marks codeword j = eqb (get_or marks j 0) 0 && eqb (get_or word j 0) (get_or codeword j 0)

abbrev pub readable : (marks : List ℕ) → ℕ → Bool
readable marks j = eqb (get_or marks j 0) 0

harm_place : (w m c : ℕ) → harm_at w m c + 2 * cond (eqb m 0 && eqb w c) 1 0 ≡ 1 + cond (eqb m 0) 1 0
harm_place w m c = by (eqb m 0) (eqb w c)
  where
    by : (t u : Bool) → cond t (cond u 0 2) 1 + 2 * cond (t && u) 1 0 ≡ 1 + cond t 1 0
    by true true = refl
    by true false = refl
    by false u = refl

-- harm takes 2 off for each right place from 2 for each readable and 1 for each blank one
pub harm_count : (word marks codeword : List ℕ) → length marks ≡ length word → length codeword ≡ length word →
    harm word marks codeword + 2 * count (right word marks codeword) (length word) ≡ length word + count (readable marks) (length word)
harm_count [] marks codeword lm lc = refl
harm_count (w ∷ word) [] codeword lm lc = absurd (omega arith)
harm_count (w ∷ word) (m ∷ marks) [] lm lc = absurd (omega arith)
harm_count (w ∷ word) (m ∷ marks) (c ∷ codeword) lm lc =
    omega (
      arith,
      harm_place w m c,
      harm_count word marks codeword (omega arith) (omega arith),
      total_front (λ j. cond (right (w ∷ word) (m ∷ marks) (c ∷ codeword) j) 1 0) (length word),
      total_front (λ j. cond (readable (m ∷ marks) j) 1 0) (length word),
    )

-- of those that pass a test, the first so many
abbrev pub early : (ℕ → Bool) → ℕ → ℕ → Bool
early test wanted j = test j && ltb (count test j) wanted

pub count_early : (test : ℕ → Bool) (wanted n : ℕ) → count (early test wanted) n ≡ min wanted (count test n)
count_early test wanted zero = omega arith
count_early test wanted (suc n) = by (test n) (cases_Bool (ltb (count test n) wanted)) (count_early test wanted n)
  where
    by : (t : Bool) → (ltb (count test n) wanted ≡ true) ⊎ (ltb (count test n) wanted ≡ false) → count (early test wanted) n ≡ min wanted (count test n) →
        count (early test wanted) n + cond (t && ltb (count test n) wanted) 1 0 ≡ min wanted (count test n + cond t 1 0)
    by true (inl h) ih = rw h (omega (arith, ltb-true (count test n) wanted h))
    by true (inr h) ih = rw h (omega (arith, ltb-false (count test n) wanted h))
    by false h ih = omega arith
