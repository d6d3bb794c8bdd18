-- Pages of one size, one after the other. Assumes nothing.
use Rattle.std.proofs.Common.{◌≡◌, ℕ, zero, suc, ◌+◌, ◌-◌, ◌*◌, ◌<◌, ◌≤◌, List, [], ◌∷◌, length, take, drop, set, sym, refl, ap, ◌∙◌, ⊎_elim, le_of_suc-le-suc, not-suc-le-zero, mul-le-mul_right, suc-mul, arith}
use borrow.Rule.Slice.PartMut.{put_mid}
use Rattle.std.proofs.lemmas.List.{length-append, length-take-le, length-drop, drop-set-add, drop-set-lt, take-set-le}
use Rattle.std.proofs.lemmas.Slice.{between_is, take-put_mid_below, drop-put_mid, between-put_mid}
use Rattle.std.proofs.lemmas.Bool.{cases_order}

abbrev pub page_of : List ℕ → ℕ → ℕ → List ℕ
page_of b size p = take size (drop (p * size) b)

take_set_below : (n : ℕ) (xs : List ℕ) (i x : ℕ) → i < n → take n (set xs i x) ≡ set (take n xs) i x
take_set_below zero xs i x l = absurd (not-suc-le-zero l)
take_set_below (suc n) [] i x l = refl
take_set_below (suc n) (y ∷ xs) zero x l = refl
take_set_below (suc n) (y ∷ xs) (suc i) x l = ap (λ rest. y ∷ rest) (take_set_below n xs i x (le_of_suc-le-suc l))

-- a page ends before a later one begins
pub page_end : (size p q : ℕ) → p < q → p * size + size ≤ q * size
page_end size p q l = omega (arith, mul-le-mul_right size l, suc-mul p size)

module _ (b : List ℕ) (size pages : ℕ) (whole : length b ≡ pages * size) where
  pub page_within : (p : ℕ) → p < pages → p * size + size ≤ length b
  page_within p l = omega (arith, page_end size p pages l, whole)

  pub length_page : (p : ℕ) → p < pages → length (page_of b size p) ≡ size
  length_page p l = length-take-le size (drop (p * size) b) (omega (arith, length-drop (p * size) b, page_within p l))

  -- a page is written over, and the others stay
  pub page_put : (new : List ℕ) (p : ℕ) → p < pages → length new ≡ size → page_of (put_mid (p * size) size b new) size p ≡ new
  page_put new p l e =
      let from : p * size ≤ length b = omega (arith, page_within p l) in
      let span : p * size + size - p * size ≡ size = omega arith in
      ap (λ n. take n (drop (p * size) (put_mid (p * size) size b new))) (sym span)
      ∙ between-put_mid (p * size) size b new (p * size + size) from (e ∙ sym span)

  pub page_kept : (new : List ℕ) (p q : ℕ) → p < pages → q < pages → (q ≡ p → ⊥) → length new ≡ size → page_of (put_mid (p * size) size b new) size q ≡ page_of b size q
  page_kept new p q lp lq ne e = ⊎_elim (λ same. absurd (ne same)) (⊎_elim earlier later) (cases_order q p)
    where
      from : p * size ≤ length b
      from = omega (arith, page_within p lp)

      span : q * size + size - q * size ≡ size
      span = omega arith

      part : (xs : List ℕ) → page_of xs size q ≡ drop (q * size) (take (q * size + size) xs)
      part xs = ap (λ n. take n (drop (q * size) xs)) (sym span) ∙ between_is xs (q * size) (q * size + size)

      earlier : q < p → page_of (put_mid (p * size) size b new) size q ≡ page_of b size q
      earlier l =
          part (put_mid (p * size) size b new)
          ∙ ap (drop (q * size)) (take-put_mid_below (p * size) size b new (q * size + size) (page_end size q p l) from)
          ∙ sym (part b)

      later : p < q → page_of (put_mid (p * size) size b new) size q ≡ page_of b size q
      later l = ap (take size) (drop-put_mid (p * size) size b new (q * size) (page_end size p q l) from e)

  -- one place of a page is set, and the other pages stay
  pub page_set : (p i x : ℕ) → p < pages → i < size → page_of (set b (p * size + i) x) size p ≡ set (page_of b size p) i x
  page_set p i x l li =
      ap (take size) (drop-set-add (p * size) b i x) ∙ take_set_below size (drop (p * size) b) i x li

  pub page_unset : (p q i x : ℕ) → i < size → (q ≡ p → ⊥) → page_of (set b (p * size + i) x) size q ≡ page_of b size q
  page_unset p q i x li ne = ⊎_elim (λ same. absurd (ne same)) (⊎_elim earlier later) (cases_order q p)
    where
      span : q * size + size - q * size ≡ size
      span = omega arith

      part : (xs : List ℕ) → page_of xs size q ≡ drop (q * size) (take (q * size + size) xs)
      part xs = ap (λ n. take n (drop (q * size) xs)) (sym span) ∙ between_is xs (q * size) (q * size + size)

      earlier : q < p → page_of (set b (p * size + i) x) size q ≡ page_of b size q
      earlier l =
          let end = page_end size q p l in
          part (set b (p * size + i) x)
          ∙ ap (drop (q * size)) (take-set-le (q * size + size) b (p * size + i) x (omega arith))
          ∙ sym (part b)

      later : p < q → page_of (set b (p * size + i) x) size q ≡ page_of b size q
      later l = let end = page_end size p q l in ap (take size) (drop-set-lt (q * size) b (p * size + i) x (omega arith))

  pub length_over : (new : List ℕ) (p : ℕ) → p < pages → length new ≡ size → length (put_mid (p * size) size b new) ≡ pages * size
  length_over new p l e =
      let within = page_within p l in
      simp (length-append, length-drop, length-take-le (p * size) b (omega arith)) (omega (arith, whole))
