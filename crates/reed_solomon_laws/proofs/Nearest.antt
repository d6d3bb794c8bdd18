-- What the interpolations and the key equation give of the nearest codeword. Assumes nothing.
use Rattle.std.proofs.Common.{◌≡◌, ℕ, ◌+◌, ◌-◌, ◌*◌, ◌<◌, ◌≤◌, true, false, not, ◌&&◌, eqb, List, [], ◌∷◌, length, get_or, sym, refl, ap, ◌∙◌, subst, inl, inr, arith}
use Rattle.std.proofs.lemmas.Bool.{cases_Bool, lt-ltb, eqb-true, eqb-false, eq-eqb, and_parts, and_from, true≢false, not_from_true, not_from_false, not-true}
use Rattle.algebra.specs.Field.{same}
use Rattle.algebra.specs.Places.{Polynomial}
use Rattle.algebra.specs.Ring.{◌⊗◌}
use Rattle.algebra.specs.Sums.{count}
use Rattle.algebra.proofs.Field.{zero-mul, zero_from_same}
use Rattle.algebra.proofs.Ring.{by_ring}
use Rattle.algebra.proofs.Sums.{count_all, count_mono, count_split, count_found}
use Rattle.field_laws.specs.Fields.{FieldModel, FieldLaws, size}
use Rattle.field_laws.proofs.Elements.{Element, zero_of, sum_of, product_of, ring_of, field_of}
use Rattle.words.specs.Harm.{harm}
use Rattle.codes.specs.Model.{Symbols}
use Rattle.std.proofs.ByRecursion.{All-get_or}
use Rattle.reed_solomon_laws.specs.Words.{Codeword, InKind, reed_solomon}
use Rattle.reed_solomon_laws.proofs.Laws.{the_codeword}
use Rattle.reed_solomon_laws.proofs.Arrays.{at, Below, Chosen, Interpolated, passes, Passed, Located}
use Rattle.reed_solomon_laws.proofs.Codewords.{row_is, codeword_from, codeword_polynomial, codeword_elements, same_codewords}
use Rattle.reed_solomon_laws.proofs.Complete.{right_where, enough_right}
use Rattle.reed_solomon_laws.proofs.Counts.{readable, right, early, count_early, count_same, harm_count}
use Rattle.reed_solomon_laws.proofs.Numbers.{element, element_zero, not_zero, same_number, same_numbers, places_apart}

module _ (f : FieldModel) (laws : FieldLaws f) (n k : ℕ) (kind : InKind f n k) (word : List ℕ) where
  -- an interpolation through enough places is a codeword
  pub interpolated_codeword : (skip : List ℕ) (x : ℕ) (v p : List ℕ) (taken : ℕ) → length v ≡ n → Interpolated f n k word skip x v p taken → taken ≡ k → Codeword f n k v
  interpolated_codeword skip x v p taken long s enough =
      subst (Codeword f n k) (sym (row_is n (λ j. get_or v j 0) v long (λ j l. refl)))
      (codeword_from f laws n kind.0 k (λ j. get_or v j 0) s.v_below (subst (λ (m : ℕ). Polynomial (ring_of f laws) (element f laws) n m (at f laws v)) enough (s.newton laws).interpolant))

  -- an interpolation through the first k places gives the codeword of what stands there
  pub interpolated_first : (skip v p : List ℕ) (taken : ℕ) → length v ≡ n → Symbols f.width k word → ((j : ℕ) → j < k → get_or skip j 0 ≡ 0) →
      Interpolated f n k word skip k v p taken → v ≡ (reed_solomon f n k).codeword word
  interpolated_first skip v p taken long symbols none s =
      the_codeword f laws n k kind word v symbols (interpolated_codeword skip k v p taken long s (s.taken_is ∙ enough))
      (λ j l. let ln : j < n = omega (arith, kind.2) in
      same_number f laws (get_or v j 0) (get_or word j 0) (s.v_below j ln) (All-get_or (λ x. x < size f) word j 0 (omega (arith, symbols.0)) symbols.1) ((s.newton laws).takes j ln (l, all_early j l)))
    where
      all_readable : (j : ℕ) → j ≤ k → count (readable skip) j ≡ j
      all_readable j l = count_all (readable skip) j (λ i m. eq-eqb (get_or skip i 0) 0 (none i (omega arith)))

      all_early : (j : ℕ) → j < k → early (readable skip) k j ≡ true
      all_early j l = and_from (readable skip j) _ (eq-eqb (get_or skip j 0) 0 (none j l)) (lt-ltb (count (readable skip) j) k (omega (arith, all_readable j (omega arith))))

      enough : count (early (readable skip) k) k ≡ k
      enough = count_all (early (readable skip) k) k all_early

  module _ (word_below : Below f n word) (length-word : length word ≡ n) (marks : List ℕ) (length-marks : length marks ≡ n)
      (w : List ℕ) (codeword : Codeword f n k w) (near : harm word marks w < n - k + 1) where
    w_is : (length w ≡ n) × Below f n w
    w_is = codeword_elements f laws n kind.0 k w codeword

    harm_is : harm word marks w + 2 * count (right word marks w) n ≡ n + count (readable marks) n
    harm_is =
        subst (λ (m : ℕ). harm word marks w + 2 * count (right word marks w) m ≡ m + count (readable marks) m) length-word
        (harm_count word marks w (length-marks ∙ sym length-word) (w_is.0 ∙ sym length-word))

    -- most readable places are right
    many_right : count (readable marks) n + k ≤ 2 * count (right word marks w) n
    many_right = omega (arith, harm_is, near, kind.2)

    right_readable : count (right word marks w) n ≤ count (readable marks) n
    right_readable = count_mono (right word marks w) (readable marks) n (λ j l h. (and_parts (readable marks j) _ h).0)

    module _ (g p : List ℕ) (taken : ℕ) (first : Interpolated f n k word marks n g p taken) where
      pub all_taken : taken ≡ k
      all_taken = omega (arith, first.taken_is, count_early (readable marks) k n, many_right, right_readable)

      p_zero : (j : ℕ) → j < n → Chosen marks k n j → get_or p j 0 ≡ 0
      p_zero j l c = same_number f laws (get_or p j 0) 0 (first.p_below j l) (zero_of f laws).1 ((first.newton laws).vanishes j l c ∙ sym (element_zero f laws))

      few_passed : count (passes marks p) n + k ≤ count (readable marks) n
      few_passed =
          omega (
            arith,
            count_split (readable marks) (λ j. eqb (get_or p j 0) 0) n,
            count_mono (early (readable marks) k) (λ j. readable marks j && eqb (get_or p j 0) 0) n
                (λ j l h. and_from (readable marks j) _ (and_parts (readable marks j) _ h).0 (eq-eqb (get_or p j 0) 0 (p_zero j l (l, h)))),
            count_early (readable marks) k n,
            many_right,
            right_readable,
          )

      module _ (e : List ℕ) (located : Located f n word marks g p e) where
        q : List ℕ
        q = located.q

        b : ℕ
        b = located.b

        bound : b + k ≤ count (right word marks w) n
        unfolding b
        bound = omega (arith, located.short, few_passed, many_right)

        key : (j : ℕ) → j < n → readable marks j ≡ true → product_of f laws (at f laws p j) (at f laws located.q j) ≡ product_of f laws (sum_of f laws (at f laws word j) (at f laws g j)) (at f laws e j)
        key j l r = elim (cases_Bool (eqb (get_or p j 0) 0)) [
          | inl z ↦
              let pz : at f laws p j ≡ zero_of f laws = ap (element f laws) (eqb-true (get_or p j 0) 0 z) ∙ element_zero f laws in
              let chosen = (first.newton laws).only j l pz in
              let d : sum_of f laws (at f laws word j) (at f laws g j) ≡ zero_of f laws = zero_from_same (ring_of f laws) (at f laws word j) (at f laws g j) (sym ((first.newton laws).takes j l chosen)) in
              ap (λ (a : Element f). product_of f laws a (at f laws located.q j)) pz ∙ zero-mul (ring_of f laws) (at f laws located.q j)
              ∙ sym (ap (λ (a : Element f). product_of f laws a (at f laws e j)) d ∙ zero-mul (ring_of f laws) (at f laws e j))
          | inr z ↦
              let ne = not_zero f laws (get_or p j 0) (first.p_below j l) (eqb-false (get_or p j 0) 0 z) in
              let P = at f laws p j in
              let D = sum_of f laws (at f laws word j) (at f laws g j) in
              let I = (field_of f laws).inv P in
              let E = at f laws e j in
              ap (product_of f laws P) ((located.solved laws).meets j l (l, and_from (readable marks j) _ r (not_from_false _ z)))
              ∙ by_ring (ring_of f laws) (P ∷ D ∷ I ∷ E ∷ []) (λ p d i e. (p ⊗ ((d ⊗ i) ⊗ e), (p ⊗ i) ⊗ (d ⊗ e))) tt
              ∙ ap (λ (a : Element f). product_of f laws a (product_of f laws D E)) ((field_of f laws).mul_inv P ne)
              ∙ (ring_of f laws).one-mul (product_of f laws D E)
        ]

        near_same : located.b + k ≤ count (λ j. readable marks j && same (field_of f laws) (at f laws word j) (at f laws w j)) n
        unfolding b
        near_same =
            omega (
              arith,
              bound,
              count_same (λ j. readable marks j && same (field_of f laws) (at f laws word j) (at f laws w j)) (right word marks w) n
                  (λ j l. ap (λ t. readable marks j && t) (same_numbers f laws (get_or word j 0) (get_or w j 0) (word_below j l) (w_is.1 j l))),
            )

        poly_g : Polynomial (ring_of f laws) (element f laws) n k (at f laws g)
        poly_g = subst (λ (m : ℕ). Polynomial (ring_of f laws) (element f laws) n m (at f laws g)) all_taken (first.newton laws).interpolant

        poly_p : Polynomial (ring_of f laws) (element f laws) n (k + 1) (at f laws p)
        poly_p = subst (λ (m : ℕ). Polynomial (ring_of f laws) (element f laws) n (m + 1) (at f laws p)) all_taken (first.newton laws).product

        -- a readable place where e does not vanish is right
        right_there : (j : ℕ) → j < n → readable marks j ≡ true → (get_or e j 0 ≡ 0 → ⊥) → get_or word j 0 ≡ get_or w j 0
        right_there j l r ne =
            same_number f laws (get_or word j 0) (get_or w j 0) (word_below j l) (w_is.1 j l)
            (right_where (field_of f laws) (element f laws) n (places_apart f laws n kind.0) k kind.1 (readable marks)
            (at f laws word) (at f laws g) (at f laws p) (at f laws located.q) (at f laws e) (at f laws w) located.b
            poly_g poly_p (located.solved laws).top (located.solved laws).bottom (codeword_polynomial f laws n kind.0 k w codeword) key near_same
            j l r (not_zero f laws (get_or e j 0) (located.e_below j l) ne))

        a_root : (r : ℕ) × (r < n) × (early (readable marks) k r ≡ true)
        a_root = count_found (early (readable marks) k) n (omega (arith, all_taken, first.taken_is, kind.1))

        enough_there : k ≤ count (λ j. readable marks j && not (eqb (get_or e j 0) 0)) n
        unfolding b
        enough_there =
            let r = a_root in
            let unpassed : Passed marks p n r.0 → ⊥ = λ c.
            true≢false (sym (and_parts (readable marks r.0) _ c.1).1 ∙ not_from_true _ (eq-eqb (get_or p r.0 0) 0 (p_zero r.0 r.1 (r.1, r.2)))) in
            let outside = count_mono (passes marks p) (λ j. not (same (field_of f laws) (at f laws p j) (zero_of f laws))) n
            (λ j l h. not_from_false _ (subst (λ (z : Element f). same (field_of f laws) (at f laws p j) z ≡ false) (element_zero f laws) (same_numbers f laws (get_or p j 0) 0 (first.p_below j l) (zero_of f laws).1 ∙ not-true _ (and_parts (readable marks j) _ h).1))) in
            omega (
              arith,
              enough_right (field_of f laws) (element f laws) n (places_apart f laws n kind.0) k kind.1 (readable marks)
                  (at f laws word) (at f laws g) (at f laws p) (at f laws located.q) (at f laws e) (at f laws w) located.b
                  poly_g poly_p (located.solved laws).top (located.solved laws).bottom (codeword_polynomial f laws n kind.0 k w codeword) key near_same
                  r.0 r.1 ((located.solved laws).alive r.0 r.1 unpassed) (omega (arith, located.short, outside)) (omega (arith, bound, right_readable)),
              count_same (λ j. readable marks j && not (same (field_of f laws) (at f laws e j) (zero_of f laws))) (λ j. readable marks j && not (eqb (get_or e j 0) 0)) n
                  (λ j l. ap (λ t. readable marks j && not t) (ap (same (field_of f laws) (at f laws e j)) (sym (element_zero f laws)) ∙ same_numbers f laws (get_or e j 0) 0 (located.e_below j l) (zero_of f laws).1)),
            )

        -- the interpolation through the readable places where e does not vanish is the near codeword
        pub found_again : (skip v p' : List ℕ) (taken' : ℕ) → length v ≡ n →
            ((j : ℕ) → j < n → readable skip j ≡ (readable marks j && not (eqb (get_or e j 0) 0))) →
            Interpolated f n k word skip n v p' taken' → (taken' ≡ k) × (v ≡ w)
        found_again skip v p' taken' long skip_is again = (enough, same_codewords f laws n kind.0 k v w (interpolated_codeword skip n v p' taken' long again enough) codeword agree)
          where
            enough : taken' ≡ k
            enough = omega (arith, again.taken_is, count_early (readable skip) k n, enough_there, count_same (readable skip) (λ j. readable marks j && not (eqb (get_or e j 0) 0)) n skip_is)

            agree_at : (j : ℕ) → j < n → early (readable skip) k j ≡ true → eqb (get_or v j 0) (get_or w j 0) ≡ true
            agree_at j l h =
                let t = and_parts (readable marks j) _ (sym (skip_is j l) ∙ (and_parts (readable skip j) _ h).0) in
                let taken-there : get_or v j 0 ≡ get_or word j 0 = same_number f laws (get_or v j 0) (get_or word j 0) (again.v_below j l) (word_below j l) ((again.newton laws).takes j l (l, h)) in
                eq-eqb (get_or v j 0) (get_or w j 0) (taken-there ∙ right_there j l t.0 (eqb-false (get_or e j 0) 0 (not-true _ t.1)))

            agree : k ≤ count (λ j. eqb (get_or v j 0) (get_or w j 0)) n
            agree = omega (arith, enough, again.taken_is, count_mono (early (readable skip) k) (λ j. eqb (get_or v j 0) (get_or w j 0)) n agree_at)
