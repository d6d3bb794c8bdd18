-- Laws of sums and counts over the numbers below n, and the pigeonhole principle. Assumes nothing.
use Rattle.std.proofs.Common.{◌≡◌, ℕ, zero, suc, ◌+◌, ◌*◌, ◌^◌, ◌<◌, ◌≤◌, Bool, true, false, cond, not, ◌&&◌, eqb, ◌≢◌, List, [], ◌∷◌, length, get_or, sum_by, sym, refl, ap, ◌∙◌, ap₂, inl, inr, add-zero, add-suc, add-one, arith}
use native.Mathlib.Decide.{dec_lt, dec_le}
use lib.Pow.{pow-lt}
use Rattle.std.proofs.lemmas.List.Sums.{sum_by-cons}
use Rattle.std.proofs.lemmas.Bool.{eqb-true, eqb-false, eq-eqb, cases_Bool, cond-true, cond-false}
use Rattle.algebra.specs.Sums.{total, count, Injective}

pub total_more : (f : ℕ → ℕ) (n : ℕ) → total f (n + 1) ≡ total f n + f n
total_more f n = ap (total f) (add-one n)

pub total_same : (f g : ℕ → ℕ) (n : ℕ) → ((i : ℕ) → i < n → f i ≡ g i) → total f n ≡ total g n
total_same f g zero h = refl
total_same f g (suc n) h = ap₂ ◌+◌ (total_same f g n (λ i l. h i (omega arith))) (h n (omega arith))

pub total_le : (f g : ℕ → ℕ) (n : ℕ) → ((i : ℕ) → i < n → f i ≤ g i) → total f n ≤ total g n
total_le f g zero h = omega arith
total_le f g (suc n) h =
    let ih : total f n ≤ total g n = total_le f g n (λ i l. h i (omega arith)) in
    omega (arith, h n (omega arith))

pub total_add : (f g : ℕ → ℕ) (n : ℕ) → total (λ i. f i + g i) n ≡ total f n + total g n
total_add f g zero = refl
total_add f g (suc n) = omega (arith, total_add f g n)

pub total_constant : (b n : ℕ) → total (λ i. b) n ≡ n * b
total_constant b zero = omega arith
total_constant b (suc n) = omega (arith, total_constant b n)

pub total_mul : (b : ℕ) (f : ℕ → ℕ) (n : ℕ) → total (λ i. b * f i) n ≡ b * total f n
total_mul b f zero = omega arith
total_mul b f (suc n) = omega (arith, total_mul b f n)

-- the sum over the first m, and over the n after them
pub total_split : (f : ℕ → ℕ) (m n : ℕ) → total f (m + n) ≡ total f m + total (λ i. f (m + i)) n
total_split f m zero = rw (add-zero m) (omega arith)
total_split f m (suc n) = rw add-suc (omega (arith, total_split f m n))

pub term_le_total : (f : ℕ → ℕ) (n i : ℕ) → i < n → f i ≤ total f n
term_le_total f zero i l = omega arith
term_le_total f (suc n) i l =
    elim (dec_lt i n) [
      | yes below ↦ omega (arith, term_le_total f n i below)
      | no past ↦ let here : i ≡ n = omega arith in rw here (omega arith)
    ]

-- Σ_i Σ_j f i j = Σ_j Σ_i f i j
pub total_swap : (f : ℕ → ℕ → ℕ) (m n : ℕ) → total (λ i. total (f i) n) m ≡ total (λ j. total (λ i. f i j) m) n
total_swap f zero n = sym (total_constant 0 n ∙ omega arith)
total_swap f (suc m) n =
    ap (λ s. s + total (f m) n) (total_swap f m n) ∙ sym (total_add (λ j. total (λ i. f i j) m) (f m) n)

-- below the average
pub term_below : (f : ℕ → ℕ) (n b : ℕ) → total f n < n * b → (i : ℕ) × (i < n) × (f i < b)
term_below f zero b h = absurd (omega arith)
term_below f (suc n) b h =
    elim (dec_lt (f n) b) [
      | yes less ↦ (n, omega arith, less)
      | no more ↦
          let rest : total f n < n * b = omega arith in
          let found = term_below f n b rest in
          (found.0, omega arith, found.2)
    ]

total_front : (f : ℕ → ℕ) (n : ℕ) → total f (suc n) ≡ f 0 + total (λ i. f (suc i)) n
total_front f zero = omega arith
total_front f (suc n) = omega (arith, total_front f n)

-- the shelf's sum over a list, by places
pub sum_by_total : {X : Type 0} (f : X → ℕ) (xs : List X) (d : X) → sum_by f xs ≡ total (λ i. f (get_or xs i d)) (length xs)
sum_by_total f [] d = refl
sum_by_total f (x ∷ xs) d =
    sum_by-cons f x xs
    ∙ ap (λ s. f x + s) (sum_by_total f xs d)
    ∙ sym (total_front (λ i. f (get_or (x ∷ xs) i d)) (length xs))

one_from_true : (b : Bool) → b ≡ true → cond {A = ℕ} b 1 0 ≡ 1
one_from_true b e = cond-true b 1 0 e

none_from_false : (b : Bool) → b ≡ false → cond {A = ℕ} b 1 0 ≡ 0
none_from_false b e = cond-false b 1 0 e

one_le_one : (a b : Bool) → (a ≡ true → b ≡ true) → cond a 1 0 ≤ cond b 1 0
one_le_one true b h = rw (h refl) (omega arith)
one_le_one false b h = omega arith

pub count_le : (test : ℕ → Bool) (n : ℕ) → count test n ≤ n
count_le test n =
    omega (arith, total_le (λ i. cond (test i) 1 0) (λ i. 1) n (λ i l. one_le_one (test i) true (λ h. refl)), total_constant 1 n)

pub count_mono : (a b : ℕ → Bool) (n : ℕ) → ((i : ℕ) → i < n → a i ≡ true → b i ≡ true) → count a n ≤ count b n
count_mono a b n h = total_le (λ i. cond (a i) 1 0) (λ i. cond (b i) 1 0) n (λ i l. one_le_one (a i) (b i) (h i l))

pub count_all : (test : ℕ → Bool) (n : ℕ) → ((i : ℕ) → i < n → test i ≡ true) → count test n ≡ n
count_all test n h =
    total_same (λ i. cond (test i) 1 0) (λ i. 1) n (λ i l. one_from_true (test i) (h i l)) ∙ total_constant 1 n ∙ omega arith

pub count_none : (test : ℕ → Bool) (n : ℕ) → ((i : ℕ) → i < n → test i ≡ false) → count test n ≡ 0
count_none test n h =
    total_same (λ i. cond (test i) 1 0) (λ i. 0) n (λ i l. none_from_false (test i) (h i l)) ∙ total_constant 0 n ∙ omega arith

one_or_none : (a b : Bool) → cond a 1 0 ≡ cond (a && b) 1 0 + cond (a && not b) 1 0
one_or_none true true = refl
one_or_none true false = refl
one_or_none false b = refl

-- those that pass a are those that pass b too and those that do not
pub count_split : (a b : ℕ → Bool) (n : ℕ) → count a n ≡ count (λ i. a i && b i) n + count (λ i. a i && not (b i)) n
count_split a b n =
    total_same (λ i. cond (a i) 1 0) (λ i. cond (a i && b i) 1 0 + cond (a i && not (b i)) 1 0) n (λ i l. one_or_none (a i) (b i))
    ∙ total_add (λ i. cond (a i && b i) 1 0) (λ i. cond (a i && not (b i)) 1 0) n

pub count_not : (test : ℕ → Bool) (n : ℕ) → count test n + count (λ i. not (test i)) n ≡ n
count_not test n = sym (count_split (λ i. true) test n) ∙ count_all (λ i. true) n (λ i l. refl)

pub count_found : (test : ℕ → Bool) (n : ℕ) → 0 < count test n → (i : ℕ) × (i < n) × (test i ≡ true)
count_found test zero h = absurd (omega arith)
count_found test (suc n) h =
    elim (cases_Bool (test n)) [
      | inl e ↦ (n, omega arith, e)
      | inr e ↦
          let found = count_found test n (omega (arith, none_from_false (test n) e)) in
          (found.0, omega arith, found.2)
    ]

pub count_at_most_one : (test : ℕ → Bool) (n : ℕ) →
    ((i j : ℕ) → i < n → j < n → test i ≡ true → test j ≡ true → i ≡ j) →
    count test n ≤ 1
count_at_most_one test zero h = omega arith
count_at_most_one test (suc n) h =
    elim (cases_Bool (test n)) [
      | inl e ↦
          let others : (i : ℕ) → i < n → test i ≡ false = λ i l. elim (cases_Bool (test i)) [
            | inl f ↦ absurd (omega (arith, h i n (omega arith) (omega arith) f e))
            | inr f ↦ f
          ] in
          omega (arith, count_none test n others, one_from_true (test n) e)
      | inr e ↦
          omega
          (arith, count_at_most_one test n (λ i j l m. h i j (omega arith) (omega arith)), none_from_false (test n) e)
    ]

one_or_there : (a b c : Bool) → (a ≡ true → c ≡ false → b ≡ true) → cond a 1 0 ≤ cond b 1 0 + cond c 1 0
one_or_there true b true h = omega arith
one_or_there true b false h = rw (h refl refl) (omega arith)
one_or_there false b c h = omega arith

-- those that pass a pass b, but for one
pub count_but_one : (a b : ℕ → Bool) (n r : ℕ) →
    ((i : ℕ) → i < n → i ≢ r → a i ≡ true → b i ≡ true) →
    count a n ≤ count b n + 1
count_but_one a b n r h =
    let there : count (λ i. eqb i r) n ≤ 1 =
    count_at_most_one (λ i. eqb i r) n (λ i j l m e f. eqb-true i r e ∙ sym (eqb-true j r f)) in
    let pointwise = total_le (λ i. cond (a i) 1 0) (λ i. cond (b i) 1 0 + cond (eqb i r) 1 0) n
    (λ i l. one_or_there (a i) (b i) (eqb i r) (λ e f. h i l (eqb-false i r f) e)) in
    omega (arith, pointwise, total_add (λ i. cond (b i) 1 0) (λ i. cond (eqb i r) 1 0) n)

pub pigeonhole : (f : ℕ → ℕ) (a b : ℕ) → ((i : ℕ) → i < a → f i < b) → Injective a f → a ≤ b
pigeonhole f a b into injective =
    let hit : (i : ℕ) → i < a → 1 ≤ count (eqb (f i)) b = λ i l.
    omega (arith, term_le_total (λ j. cond (eqb (f i) j) 1 0) b (f i) (into i l), one_from_true (eqb (f i) (f i)) (eq-eqb (f i) (f i) refl)) in
    let once : (j : ℕ) → j < b → count (λ i. eqb (f i) j) a ≤ 1 = λ j l.
    count_at_most_one (λ i. eqb (f i) j) a (λ i k li lk e e'. injective i k li lk (eqb-true (f i) j e ∙ sym (eqb-true (f k) j e'))) in
    omega (
      arith,
      total_le (λ i. 1) (λ i. count (eqb (f i)) b) a hit,
      total_swap (λ i j. cond (eqb (f i) j) 1 0) a b,
      total_le (λ j. count (λ i. eqb (f i) j) a) (λ j. 1) b once,
      total_constant 1 a,
      total_constant 1 b,
    )

pub pigeonhole_pow : (f : ℕ → ℕ) (a b : ℕ) → ((i : ℕ) → i < 2 ^ a → f i < 2 ^ b) → Injective (2 ^ a) f → a ≤ b
pigeonhole_pow f a b into injective =
    elim (dec_le a b) [
      | yes h ↦ h
      | no h ↦
          let less : b < a = omega arith in
          absurd (omega (arith, pigeonhole f (2 ^ a) (2 ^ b) into injective, pow-lt less))
    ]
