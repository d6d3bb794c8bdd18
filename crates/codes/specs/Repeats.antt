-- One symbol many times over, and how often a word holds it. Assumes nothing.
use Rattle.std.specs.Prelude.{◌≡◌, ℕ, zero, suc, ◌+◌, ◌*◌, ◌^◌, ◌<◌, ◌≤◌, Bool, true, false, cond, ◌&&◌, List, [], ◌∷◌, length, drop, replicate, ◌==◌, ◌≢◌, slice_index, slice_set, refl}
use Rattle.std.proofs.Common.{sym, ap, ap₂, subst, ◌∙◌, arith}
use Rattle.std.specs.List.{AllByRecursion}
use Rattle.std.proofs.lemmas.List.{drop_more, drop_all, length-replicate, get_or-set_same, get_or-set_other, get_or-replicate}
use Rattle.std.proofs.lemmas.Bool.{eq-eqb, ne_eqb, eqb-true, eqb-false}
use Rattle.words.specs.Distance.{differences}
use Rattle.words.specs.Harm.{harm}
use Rattle.codes.specs.Kinds.{readable_count, repetition_code}
use Rattle.codes.specs.Making.{InRange}
use Rattle.codes.specs.Model.{Lawful}

pub count_more : (x : ℕ) (word marks : List ℕ) (i : ℕ) → i < length word → i < length marks → readable_count x (drop i word) (drop i marks) ≡ cond (slice_index marks i == 0 && slice_index word i == x) 1 0 + readable_count x (drop (i + 1) word) (drop (i + 1) marks)
count_more x word marks i lw lm = rw (drop_more word i 0 lw, drop_more marks i 0 lm)

pub count_all : (x : ℕ) (word marks : List ℕ) (i : ℕ) → length word ≤ i → readable_count x (drop i word) (drop i marks) ≡ 0
count_all x word marks i l = ap (λ left. readable_count x left (drop i marks)) (drop_all i word l)

-- a readable place that holds s counts once for s, and for no other symbol
pub counted_here : (m s x : ℕ) → m ≡ 0 → ◌≡◌ {A = ℕ} (cond (m == 0 && s == x) 1 0) (cond (s == x) 1 0)
counted_here m s x e = rw (eq-eqb m 0 e)

pub not_counted : (m s x : ℕ) → (m ≢ 0) → ◌≡◌ {A = ℕ} (cond (m == 0 && s == x) 1 0) 0
not_counted m s x ne = rw (ne_eqb m 0 ne)

-- one more at s
pub raised_at : (counts : List ℕ) (s x : ℕ) → s < length counts → slice_index (slice_set counts s (slice_index counts s + 1)) x ≡ slice_index counts x + cond (s == x) 1 0
raised_at counts s x l = by (s == x) (λ e. eqb-true s x e) (λ e. eqb-false s x e)
  where
    by : (t : Bool) → (t ≡ true → s ≡ x) → (t ≡ false → s ≢ x) → slice_index (slice_set counts s (slice_index counts s + 1)) x ≡ slice_index counts x + cond t 1 0
    by true same other = let e = same refl in subst (λ (y : ℕ). slice_index (slice_set counts s (slice_index counts s + 1)) y ≡ slice_index counts y + 1) e (get_or-set_same counts s (slice_index counts s + 1) 0 l)
    by false same other = get_or-set_other counts s x (slice_index counts s + 1) 0 (λ e. other refl (sym e)) ∙ omega arith

-- what a row of marks can cost at most: 2 where a place is readable, 1 where it is blank
abbrev weight : List ℕ → ℕ
weight [] = 0
weight (m ∷ marks) = cond (m == 0) 2 1 + weight marks

-- each readable place that holds x takes 2 off the harm against x, x, x, ..
weighed : (x : ℕ) (word marks : List ℕ) → length marks ≡ length word → harm word marks (replicate (length word) x) + 2 * readable_count x word marks ≡ weight marks
weighed x [] [] l = refl
weighed x [] (m ∷ marks) l = absurd (omega arith)
weighed x (w ∷ word) [] l = absurd (omega arith)
weighed x (w ∷ word) (m ∷ marks) l = by (m == 0) (w == x) (weighed x word marks (omega arith))
  where
    by : (t u : Bool) → harm word marks (replicate (length word) x) + 2 * readable_count x word marks ≡ weight marks → cond t (cond u 0 2) 1 + harm word marks (replicate (length word) x) + 2 * (cond (t && u) 1 0 + readable_count x word marks) ≡ cond t 2 1 + weight marks
    by true true e = omega arith
    by true false e = omega arith
    by false u e = omega arith

-- the more readable places hold a symbol, the less harm there is against it
pub more_is_nearer : (x y : ℕ) (word marks : List ℕ) → length marks ≡ length word → readable_count y word marks ≤ readable_count x word marks → harm word marks (replicate (length word) x) ≤ harm word marks (replicate (length word) y)
more_is_nearer x y word marks l h = omega (arith, weighed x word marks l, weighed y word marks l)

pub single : (u : List ℕ) → length u ≡ 1 → u ≡ slice_index u 0 ∷ []
single [] l = absurd (omega arith)
single (x ∷ []) l = refl
single (x ∷ y ∷ u) l = absurd (omega arith)

pub all_replicate : (P : ℕ → Type 0) (n x : ℕ) → P x → AllByRecursion P (replicate n x)
all_replicate P zero x p = tt
all_replicate P (suc n) x p = (p, all_replicate P n x p)

replicates_differ : (n x y : ℕ) → (x ≢ y) → n ≤ differences (replicate n x) (replicate n y)
replicates_differ zero x y ne = omega arith
replicates_differ (suc n) x y ne = rw (ne_eqb x y ne) (omega (arith, replicates_differ n x y ne))

pub first_symbol : (m : ℕ) (u : List ℕ) → length u ≡ 1 → AllByRecursion (λ x. x < 2 ^ m) u → slice_index u 0 < 2 ^ m
first_symbol m [] l a = absurd (omega arith)
first_symbol m (x ∷ u) l a = a.0

pub repetition_lawful : (m n : ℕ) → InRange m n → Lawful (repetition_code m n)
repetition_lawful m n h =
    record {
      some_width = h.0.0;
      narrow = h.0.1;
      short = h.1.1;
      some_message = omega arith;
      message_within = h.1.0;
      some_distance = h.1.0;
      symbols = λ u s. (length-replicate n (slice_index u 0), all_replicate (λ x. x < 2 ^ m) n (slice_index u 0) (first_symbol m u s.0 s.1));
      apart = λ u v mu mv ne. replicates_differ n (slice_index u 0) (slice_index v 0) (λ e. ne (single u mu.0 ∙ ap (λ x. x ∷ []) e ∙ sym (single v mv.0)));
      one_place = λ word marks d p q blamed blamed'. blamed ∙ sym blamed';
    }

-- a row whose symbols are all x
pub all_same : (x : ℕ) (xs : List ℕ) → AllByRecursion (λ y. y ≡ x) xs → xs ≡ replicate (length xs) x
all_same x [] a = refl
all_same x (y ∷ xs) a = ap₂ (λ h t. h ∷ t) a.0 (all_same x xs a.1)

pub at_most_one : (t : Bool) → cond t 1 0 ≤ 1
at_most_one true = omega arith
at_most_one false = omega arith

pub same_everywhere : (n s : ℕ) (word : List ℕ) → replicate n s ≡ word → (i j : ℕ) → i < length word → j < length word → slice_index word i ≡ slice_index word j
same_everywhere n s word e i j li lj = at i li ∙ sym (at j lj)
  where
    at : (k : ℕ) → k < length word → slice_index word k ≡ s
    at k l = ap (λ xs. slice_index xs k) (sym e) ∙ get_or-replicate n k s 0 (omega (arith, ap length e, length-replicate n s))

pub set_single : (u : List ℕ) (x : ℕ) → length u ≡ 1 → slice_set u 0 x ≡ x ∷ []
set_single [] x l = absurd (omega arith)
set_single (y ∷ []) x l = refl
set_single (y ∷ z ∷ u) x l = absurd (omega arith)
