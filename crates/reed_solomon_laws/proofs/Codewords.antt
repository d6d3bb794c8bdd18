-- The codewords of a Reed-Solomon code, and its distance. Assumes nothing.
use Rattle.std.proofs.Common.{◌≡◌, ℕ, zero, suc, ◌+◌, ◌-◌, ◌<◌, ◌≤◌, eqb, ◌⊎◌, ◌↔◌, List, [], ◌∷◌, ◌++◌, map, length, get_or, replicate, Some, unwrap_or, sym, refl, ap, ◌∙◌, subst, ap₂, inl, inr, zero-add, add-one, arith, length-append}
use native.Mathlib.Decide.{dec_lt}
use lib.ListN.{length-map}
use Rattle.std.specs.List.{AllByRecursion}
use Rattle.std.proofs.lemmas.List.FromFn.{length-map-range_with_len, get_or-map-range_with_len}
use Rattle.std.proofs.lemmas.List.{ext_get_or, length-replicate}
use Rattle.algebra.specs.Field.{Field, same}
use Rattle.algebra.specs.Newton.{Newton, correction, next_interpolant, next_product}
use Rattle.algebra.specs.Places.{Polynomial}
use Rattle.algebra.specs.Poly as poly
use Rattle.algebra.specs.Sums.{count}
use Rattle.algebra.proofs.Field.{add-zero, mul-zero}
use Rattle.algebra.proofs.Newton.{newton_none, newton_same, newton_more}
use Rattle.algebra.proofs.Places.{same_at_places}
use Rattle.field_laws.specs.Fields.{FieldModel, FieldLaws, size}
use Rattle.field_laws.proofs.Elements.{Element, zero_of, one_of, sum_of, product_of, ring_of, field_of}
use Rattle.reed_solomon_laws.specs.Words.{row, value, Codeword, through}
use Rattle.reed_solomon_laws.proofs.Counts.{count_same}
use Rattle.reed_solomon_laws.proofs.Numbers.{element, element_is, same_number, element_sum, element_product, element_zero, element_one, places_apart, reciprocal_there, element_inverse, same_numbers}

-- numbers that are all elements at the first n places
abbrev pub Elements : FieldModel → ℕ → (ℕ → ℕ) → Type 0
Elements f n v = (j : ℕ) → j < n → v j < size f

pub get_or_row : (n : ℕ) (v : ℕ → ℕ) (j : ℕ) → j < n → get_or (row n v) j 0 ≡ v j
get_or_row n v j l = get_or-map-range_with_len v 0 n j j 0 l (zero-add j)

pub length_row : (n : ℕ) (v : ℕ → ℕ) → length (row n v) ≡ n
length_row n v = length-map-range_with_len v 0 n

pub row_is : (n : ℕ) (v : ℕ → ℕ) (xs : List ℕ) → length xs ≡ n → ((j : ℕ) → j < n → get_or xs j 0 ≡ v j) → xs ≡ row n v
row_is n v xs l h = ext_get_or 0 xs (row n v) (l ∙ sym (length_row n v)) (λ j m. let i : j < n = omega arith in h j i ∙ sym (get_or_row n v j i))

module _ (f : FieldModel) (laws : FieldLaws f) where
  -- Newton's step, with the numbers that the program works out
  module _ (n : ℕ) (small : n ≤ size f) (C D : ℕ → Type 0) (y v p v' p' : ℕ → ℕ) (k x i : ℕ) where
    pub numbers_more : x < n → y x < size f → Elements f n v → Elements f n p → f.reciprocal (p x) ≡ Some i →
        ((j : ℕ) → j < n → v' j ≡ f.sum (v j) (f.product (f.product (f.sum (y x) (v x)) i) (p j))) →
        ((j : ℕ) → j < n → p' j ≡ f.product (f.sum j x) (p j)) →
        ((j : ℕ) → j < n → (C j ⊎ (j ≡ x)) ↔ D j) → ¬ C x →
        Newton (field_of f laws) (element f laws) n C (λ j. element f laws (y j)) k (λ j. element f laws (v j)) (λ j. element f laws (p j)) →
        Newton (field_of f laws) (element f laws) n D (λ j. element f laws (y j)) (k + 1) (λ j. element f laws (v' j)) (λ j. element f laws (p' j)) × Elements f n v' × Elements f n p'
    numbers_more within yx bv bp there v-is p-is chosen new s = (
      newton_same G at n (λ j. C j ⊎ (j ≡ x)) D Y (k + 1) (next_interpolant G Y V P x) (λ j. at (v' j)) (next_product G at P x) (λ j. at (p' j)) chosen same_v same_p
          (newton_more G at n C Y k V P s x within new (places_apart f laws n small)),
      below_v,
      below_p,
    )
      where
        G : Field
        G = field_of f laws

        at : ℕ → Element f
        at = element f laws

        Y : ℕ → Element f
        Y j = at (y j)

        V : ℕ → Element f
        V j = at (v j)

        P : ℕ → Element f
        P j = at (p j)

        r : (p x ≡ 0 → ⊥) × (i < size f) × (f.product (p x) i ≡ 1)
        r = reciprocal_there f laws (p x) i (bp x within) there

        off : ℕ
        off = f.sum (y x) (v x)

        off_below : off < size f
        off_below = laws.sum_below (y x) (v x) yx (bv x within)

        c : ℕ
        c = f.product off i

        c_below : c < size f
        c_below = laws.product_below off i off_below r.1

        c_is : at c ≡ correction G Y V P x
        c_is =
            element_product f laws off i off_below r.1
            ∙ ap₂ (product_of f laws) (element_sum f laws (y x) (v x) yx (bv x within)) (element_inverse f laws (p x) i (bp x within) there)

        same_v : (j : ℕ) → j < n → next_interpolant G Y V P x j ≡ at (v' j)
        same_v j l = sym (
            ap at (v-is j l)
            ∙ element_sum f laws (v j) (f.product c (p j)) (bv j l) (laws.product_below c (p j) c_below (bp j l))
            ∙ ap (sum_of f laws (at (v j))) (element_product f laws c (p j) c_below (bp j l) ∙ ap (λ (d : Element f). product_of f laws d (at (p j))) c_is)
            )

        same_p : (j : ℕ) → j < n → next_product G at P x j ≡ at (p' j)
        same_p j l =
            let lj : j < size f = omega arith in
            let lx : x < size f = omega arith in
            sym (
            ap at (p-is j l)
            ∙ element_product f laws (f.sum j x) (p j) (laws.sum_below j x lj lx) (bp j l)
            ∙ ap (λ (d : Element f). product_of f laws d (at (p j))) (element_sum f laws j x lj lx)
            )

        below_v : Elements f n v'
        below_v j l = subst (λ (a : ℕ). a < size f) (sym (v-is j l)) (laws.sum_below (v j) (f.product c (p j)) (bv j l) (laws.product_below c (p j) c_below (bp j l)))

        below_p : Elements f n p'
        below_p j l =
            let lj : j < size f = omega arith in
            let lx : x < size f = omega arith in
            subst (λ (a : ℕ). a < size f) (sym (p-is j l)) (laws.product_below (f.sum j x) (p j) (laws.sum_below j x lj lx) (bp j l))

  pub numbers_none : (n : ℕ) (C : ℕ → Type 0) (y v p : ℕ → ℕ) → ((j : ℕ) → ¬ C j) → ((j : ℕ) → j < n → v j ≡ 0) → ((j : ℕ) → j < n → p j ≡ 1) →
      Newton (field_of f laws) (element f laws) n C (λ j. element f laws (y j)) 0 (λ j. element f laws (v j)) (λ j. element f laws (p j))
  numbers_none n C y v p none vz po =
      newton_same (field_of f laws) (element f laws) n C C (λ j. element f laws (y j)) 0 (λ j. zero_of f laws) (λ j. element f laws (v j)) (λ j. one_of f laws) (λ j. element f laws (p j))
      (λ j l. (λ c. c, λ c. c)) (λ j l. sym (ap (element f laws) (vz j l) ∙ element_zero f laws)) (λ j l. sym (ap (element f laws) (po j l) ∙ element_one f laws))
      (newton_none (field_of f laws) (element f laws) n C (λ j. element f laws (y j)) none)

  -- the definition of a codeword does interpolate
  pub through_first : (n : ℕ) → n ≤ size f → (y : ℕ → ℕ) (k : ℕ) → k ≤ n → Elements f k y →
      Newton (field_of f laws) (element f laws) n (λ j. j < k) (λ j. element f laws (y j)) k (λ j. element f laws ((through f y k).0 j)) (λ j. element f laws ((through f y k).1 j))
      × Elements f n (through f y k).0 × Elements f n (through f y k).1
  through_first n small y zero le by =
      (numbers_none n (λ j. j < 0) y (λ j. 0) (λ j. 1) (λ j h. omega arith) (λ j l. refl) (λ j l. refl), (λ j l. (zero_of f laws).1), (λ j l. (one_of f laws).1))
  through_first n small y (suc k) le by =
      let before = through_first n small y k (omega arith) (λ j l. by j (omega arith)) in
      let v = (through f y k).0 in
      let p = (through f y k).1 in
      let lk : k < n = omega arith in
      let nonzero : p k ≡ 0 → ⊥ = λ e. omega (arith, before.0.only k lk (ap (element f laws) e ∙ element_zero f laws)) in
      let t = laws.some_of_others (p k) (before.2 k lk) nonzero in
      let i-is : unwrap_or (f.reciprocal (p k)) 0 ≡ t.0 = ap (λ o. unwrap_or o 0) t.2 in
      let step = numbers_more n small (λ j. j < k) (λ j. j < suc k) y v p (through f y (suc k)).0 (through f y (suc k)).1 k k t.0
      lk (by k (omega arith)) before.1 before.2 t.2
      (λ j l. ap (λ i. f.sum (v j) (f.product (f.product (f.sum (y k) (v k)) i) (p j))) i-is)
      (λ j l. refl)
      (λ j l. (elim [ inl h ↦ omega arith | inr e ↦ omega arith ], λ h. elim (dec_lt j k) [ yes b ↦ inl b | no b ↦ inr (omega arith) ]))
      (λ h. omega arith) before.0 in
      (subst (λ m. Newton (field_of f laws) (element f laws) n (λ j. j < suc k) (λ j. element f laws (y j)) m (λ j. element f laws ((through f y (suc k)).0 j)) (λ j. element f laws ((through f y (suc k)).1 j))) (add-one k) step.0, step.1, step.2)

  -- a polynomial over the elements, as numbers, and with as many coefficients as wanted
  value_number : (cs : List (Element f)) (x : Element f) → (poly.value (ring_of f laws) cs x).0 ≡ value f (map (λ (c : Element f). c.0) cs) x.0
  value_number [] x = refl
  value_number (c ∷ cs) x = ap (λ a. f.sum c.0 (f.product x.0 a)) (value_number cs x)

  value_zeros : (m : ℕ) (x : Element f) → poly.value (ring_of f laws) (replicate m (zero_of f laws)) x ≡ zero_of f laws
  value_zeros zero x = refl
  value_zeros (suc m) x =
      ap (λ (a : Element f). sum_of f laws (zero_of f laws) (product_of f laws x a)) (value_zeros m x)
      ∙ ap (sum_of f laws (zero_of f laws)) (mul-zero (ring_of f laws) x)
      ∙ add-zero (ring_of f laws) (zero_of f laws)

  value_padded : (cs : List (Element f)) (m : ℕ) (x : Element f) → poly.value (ring_of f laws) (cs ++ replicate m (zero_of f laws)) x ≡ poly.value (ring_of f laws) cs x
  value_padded [] m x = value_zeros m x
  value_padded (c ∷ cs) m x = ap (λ (a : Element f). sum_of f laws c (product_of f laws x a)) (value_padded cs m x)

  all_numbers : (cs : List (Element f)) → AllByRecursion (λ a. a < size f) (map (λ (c : Element f). c.0) cs)
  all_numbers [] = tt
  all_numbers (c ∷ cs) = (c.1, all_numbers cs)

  value_below : (cs : List ℕ) → AllByRecursion (λ a. a < size f) cs → (z : ℕ) → z < size f → value f cs z < size f
  value_below [] a z l = (zero_of f laws).1
  value_below (c ∷ cs) a z l = laws.sum_below c (f.product z (value f cs z)) a.0 (laws.product_below z (value f cs z) l (value_below cs a.1 z l))

  value_elements : (cs : List ℕ) → AllByRecursion (λ a. a < size f) cs → (z : ℕ) → z < size f → poly.value (ring_of f laws) (map (element f laws) cs) (element f laws z) ≡ element f laws (value f cs z)
  value_elements [] a z l = sym (element_zero f laws)
  value_elements (c ∷ cs) a z l =
      ap (λ (b : Element f). sum_of f laws (element f laws c) (product_of f laws (element f laws z) b)) (value_elements cs a.1 z l)
      ∙ ap (sum_of f laws (element f laws c)) (sym (element_product f laws z (value f cs z) l (value_below cs a.1 z l)))
      ∙ sym (element_sum f laws c (f.product z (value f cs z)) a.0 (laws.product_below z (value f cs z) l (value_below cs a.1 z l)))

  module _ (n : ℕ) (small : n ≤ size f) (k : ℕ) where
    pub codeword_from : (v : ℕ → ℕ) → Elements f n v → Polynomial (ring_of f laws) (element f laws) n k (λ j. element f laws (v j)) → Codeword f n k (row n v)
    codeword_from v b p = (
      map (λ (c : Element f). c.0) padded,
      (length-map padded (λ (c : Element f). c.0) ∙ length-append p.coefficients (replicate (k - length p.coefficients) (zero_of f laws)) ∙ omega (arith, length-replicate (k - length p.coefficients) (zero_of f laws), p.short), all_numbers padded),
      row_is n (value f (map (λ (c : Element f). c.0) padded)) (row n v) (length_row n v) (λ j l. get_or_row n v j l ∙ at j l),
    )
      where
        padded : List (Element f)
        padded = p.coefficients ++ replicate (k - length p.coefficients) (zero_of f laws)

        at : (j : ℕ) → j < n → v j ≡ value f (map (λ (c : Element f). c.0) padded) j
        at j l =
            let lj : j < size f = omega arith in
            sym (
            ap (value f (map (λ (c : Element f). c.0) padded)) (sym (element_is f laws j lj))
            ∙ sym (value_number padded (element f laws j))
            ∙ ap (λ (x : Element f). x.0) (value_padded p.coefficients (k - length p.coefficients) (element f laws j) ∙ p.values j l)
            ∙ element_is f laws (v j) (b j l)
            )

    pub codeword_polynomial : (w : List ℕ) → Codeword f n k w → Polynomial (ring_of f laws) (element f laws) n k (λ j. element f laws (get_or w j 0))
    codeword_polynomial w c = record {
      coefficients = map (element f laws) c.0;
      short = omega (arith, length-map c.0 (element f laws), c.1.0);
      values = λ j l.
          let lj : j < size f = omega arith in
          value_elements c.0 c.1.1 j lj ∙ ap (element f laws) (sym (ap (λ xs. get_or xs j 0) c.2 ∙ get_or_row n (value f c.0) j l));
    }

    pub codeword_elements : (w : List ℕ) → Codeword f n k w → (length w ≡ n) × Elements f n (λ j. get_or w j 0)
    codeword_elements w c = (
      ap length c.2 ∙ length_row n (value f c.0),
      λ j l. let lj : j < size f = omega arith in
          subst (λ (a : ℕ). a < size f) (sym (ap (λ xs. get_or xs j 0) c.2 ∙ get_or_row n (value f c.0) j l)) (value_below c.0 c.1.1 j lj),
    )

    -- codewords that agree at k places, by any choice, are equal
    pub same_codewords : (w x : List ℕ) → Codeword f n k w → Codeword f n k x → k ≤ count (λ j. eqb (get_or w j 0) (get_or x j 0)) n → w ≡ x
    same_codewords w x cw cx many =
        let ew = codeword_elements w cw in
        let ex = codeword_elements x cx in
        ext_get_or 0 w x (ew.0 ∙ sym ex.0)
        (λ j l. let lj : j < n = omega (arith, ew.0) in
        same_number f laws (get_or w j 0) (get_or x j 0) (ew.1 j lj) (ex.1 j lj)
        (same_at_places (field_of f laws) (element f laws) n (places_apart f laws n small) k (λ j. element f laws (get_or w j 0)) (λ j. element f laws (get_or x j 0)) (codeword_polynomial w cw) (codeword_polynomial x cx)
        (omega (arith, many, count_same (λ j. same (field_of f laws) (element f laws (get_or w j 0)) (element f laws (get_or x j 0))) (λ j. eqb (get_or w j 0) (get_or x j 0)) n (λ i m. same_numbers f laws (get_or w i 0) (get_or x i 0) (ew.1 i m) (ex.1 i m)))) j lj))
