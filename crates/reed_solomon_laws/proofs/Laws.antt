-- The codeword of a message is the one that begins with it, and the code is lawful. Assumes nothing.
use Rattle.std.proofs.Common.{◌≡◌, ℕ, ◌+◌, ◌-◌, ◌<◌, ◌≤◌, Bool, cond, eqb, List, length, get_or, take, sym, ap, ◌∙◌, subst, arith, pow_mono}
use native.Mathlib.Decide.{dec_lt}
use Rattle.std.proofs.ByRecursion.{All-from_get_or, All-get_or}
use Rattle.std.proofs.lemmas.List.{ext_get_or, get_or-take, length-take-le}
use Rattle.std.proofs.lemmas.Bool.{eq-eqb}
use Rattle.algebra.specs.Sums.{count}
use Rattle.algebra.proofs.Sums.{total_split, count_all}
use Rattle.field_laws.specs.Fields.{FieldModel, FieldLaws, size}
use Rattle.words.specs.Distance.{differences}
use Rattle.codes.specs.Model.{Lawful, Symbols}
use Rattle.reed_solomon_laws.specs.Words.{Codeword, through, reed_solomon, InKind, Systematic}
use Rattle.reed_solomon_laws.proofs.Counts.{differences_count}
use Rattle.reed_solomon_laws.proofs.Numbers.{same_number}
use Rattle.reed_solomon_laws.proofs.Codewords.{Elements, get_or_row, length_row, through_first, codeword_from, codeword_elements, same_codewords}

pub count_longer : (test : ℕ → Bool) (m n : ℕ) → m ≤ n → count test m ≤ count test n
count_longer test m n l =
    let e : m + (n - m) ≡ n = omega arith in
    let f = λ (i : ℕ). cond {A = ℕ} (test i) 1 0 in
    subst (λ (i : ℕ). count test m ≤ count test i) e (omega (arith, total_split f m (n - m)))

module _ (f : FieldModel) (laws : FieldLaws f) (n k : ℕ) (kind : InKind f n k) where
  first_elements : (u : List ℕ) → Symbols f.width k u → Elements f k (λ j. get_or u j 0)
  first_elements u s j l = All-get_or (λ x. x < size f) u j 0 (omega (arith, s.0)) s.1

  pub codeword_is : (u : List ℕ) → Symbols f.width k u → Codeword f n k ((reed_solomon f n k).codeword u)
  codeword_is u s =
      let t = through_first f laws n kind.0 (λ x. get_or u x 0) k kind.2 (first_elements u s) in
      codeword_from f laws n kind.0 k (through f (λ x. get_or u x 0) k).0 t.1 t.0.interpolant

  pub begins : (u : List ℕ) → Symbols f.width k u → (j : ℕ) → j < k → get_or ((reed_solomon f n k).codeword u) j 0 ≡ get_or u j 0
  begins u s j l =
      let t = through_first f laws n kind.0 (λ x. get_or u x 0) k kind.2 (first_elements u s) in
      let ln : j < n = omega arith in
      get_or_row n (through f (λ x. get_or u x 0) k).0 j ln
      ∙ same_number f laws ((through f (λ x. get_or u x 0) k).0 j) (get_or u j 0) (t.1 j ln) (first_elements u s j l) (t.0.takes j ln l)

  pub begins_with : (u : List ℕ) → Symbols f.width k u → take k ((reed_solomon f n k).codeword u) ≡ u
  begins_with u s =
      let long : length (take k ((reed_solomon f n k).codeword u)) ≡ k = length-take-le k ((reed_solomon f n k).codeword u) (omega (arith, length_row n (through f (λ x. get_or u x 0) k).0, kind.2)) in
      ext_get_or 0 (take k ((reed_solomon f n k).codeword u)) u (long ∙ sym s.0)
      (λ j l. let lk : j < k = omega (arith, long) in get_or-take k ((reed_solomon f n k).codeword u) j 0 lk ∙ begins u s j lk)

  -- codewords with the same first symbols
  pub same_beginnings : (w x : List ℕ) → Codeword f n k w → Codeword f n k x → ((j : ℕ) → j < k → get_or w j 0 ≡ get_or x j 0) → w ≡ x
  same_beginnings w x cw cx e =
      let test : ℕ → Bool = λ j. eqb (get_or w j 0) (get_or x j 0) in
      same_codewords f laws n kind.0 k w x cw cx (omega (arith, count_longer test k n kind.2, count_all test k (λ j l. eq-eqb (get_or w j 0) (get_or x j 0) (e j l))))

  -- the codeword that a row of symbols begins
  pub the_codeword : (u w : List ℕ) → Symbols f.width k u → Codeword f n k w → ((j : ℕ) → j < k → get_or w j 0 ≡ get_or u j 0) → w ≡ (reed_solomon f n k).codeword u
  the_codeword u w s cw e = same_beginnings w ((reed_solomon f n k).codeword u) cw (codeword_is u s) (λ j l. e j l ∙ sym (begins u s j l))

  pub beginning : (w : List ℕ) → Codeword f n k w → Symbols f.width k (take k w)
  beginning w cw =
      let e = codeword_elements f laws n kind.0 k w cw in
      let long : length (take k w) ≡ k = length-take-le k w (omega (arith, e.0, kind.2)) in (
        long,
        All-from_get_or (λ x. x < size f) (take k w) 0 (λ j l. let lk : j < k = omega (arith, long) in let ln : j < n = omega (arith, kind.2) in
            subst (λ (a : ℕ). a < size f) (sym (get_or-take k w j 0 lk)) (e.1 j ln)),
      )

  -- each codeword is that of its first symbols
  pub codeword_begun : (w : List ℕ) → Codeword f n k w → w ≡ (reed_solomon f n k).codeword (take k w)
  codeword_begun w cw = the_codeword (take k w) w (beginning w cw) cw (λ j l. sym (get_or-take k w j 0 l))

  pub systematic : Systematic f n k
  systematic u s = (
    codeword_is u s,
    begins_with u s,
    λ w cw e. codeword_begun w cw ∙ ap (reed_solomon f n k).codeword e,
  )

  pub reed_solomon_lawful : Lawful (reed_solomon f n k)
  reed_solomon_lawful = record {
    some_width = laws.width_least;
    narrow = laws.width_most;
    short = omega (arith, kind.0, pow_mono {i = f.width} {j = 8} laws.width_most);
    some_message = kind.1;
    message_within = kind.2;
    some_distance = omega arith;
    symbols = λ u s.
        let e = codeword_elements f laws n kind.0 k ((reed_solomon f n k).codeword u) (codeword_is u s) in
        (e.0, All-from_get_or (λ x. x < size f) ((reed_solomon f n k).codeword u) 0 (λ j l. e.1 j (omega (arith, e.0))));
    apart = λ u v su sv ne. far u v su sv ne;
    one_place = λ word marks beside p q blamed blamed'. blamed ∙ sym blamed';
  }
    where
      far : (u v : List ℕ) → Symbols f.width k u → Symbols f.width k v → (u ≡ v → ⊥) → n - k + 1 ≤ differences ((reed_solomon f n k).codeword u) ((reed_solomon f n k).codeword v)
      far u v su sv ne =
          let a = (reed_solomon f n k).codeword u in
          let b = (reed_solomon f n k).codeword v in
          let la = (codeword_elements f laws n kind.0 k a (codeword_is u su)).0 in
          let lb = (codeword_elements f laws n kind.0 k b (codeword_is v sv)).0 in
          let agree = count (λ j. eqb (get_or a j 0) (get_or b j 0)) n in
          let total : differences a b + agree ≡ n = subst (λ (m : ℕ). differences a b + count (λ j. eqb (get_or a j 0) (get_or b j 0)) m ≡ m) la (differences_count a b (la ∙ sym lb)) in
          elim (dec_lt agree k) [
            | yes h ↦ omega arith
            | no h ↦ absurd (ne (sym (begins_with u su) ∙ ap (take k) (same_codewords f laws n kind.0 k a b (codeword_is u su) (codeword_is v sv) (omega arith)) ∙ begins_with v sv))
          ]
