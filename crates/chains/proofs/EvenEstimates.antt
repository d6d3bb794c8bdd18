-- The estimates of the even chain: the one word that a reading can lie near. Assumes nothing.
use Rattle.std.proofs.Common.{◌≡◌, ℕ, zero, suc, ◌+◌, ◌-◌, ◌%◌, ◌^◌, ◌<◌, ◌≤◌, Bool, true, false, cond, eqb, ◌⊎◌, List, [], ◌∷◌, ◌++◌, length, get_or, take, Some, None, sym, refl, ap, ◌∙◌, subst, ⊎_elim, arith}
use Rattle.std.specs.List.{AllByRecursion}
use Rattle.std.proofs.ByRecursion.{All-get_or, All-take}
use Rattle.std.proofs.lemmas.List.{length-take-le, get_or-take, take_more, take_all}
use Rattle.std.proofs.lemmas.Bool.{cases_lt, eq-eqb, eqb-true, eqb-false}
use Rattle.words.specs.Distance.{differences}
use Rattle.words.specs.Harm.{harm, harm_at}
use Rattle.chains.specs.Bits.{bits_of, spelled, total, parity}
use Rattle.chains.specs.Even.{EvenRange, even_word, even_chain, filled_at, filled}
use Rattle.chains.specs.Model.{Row, Cells, at_stage}
use Rattle.chains.specs.Promises.{Estimates}
use Rattle.chains.specs.EvenWords.{two_labels, even_cells, even_parity}
use Rattle.chains.specs.Harms.{blanks_harm, differences_harm, own_harm}
use Rattle.chains.specs.Parity.{total_append, differences_parity}
use Rattle.chains.specs.Spelling.{bits_spelled, spelled_small}

fill_small : (flip cell mark : ℕ) → cell < 2 → filled_at flip cell mark < 2
fill_small flip cell mark h = elim (eqb mark 0) as (λ t. cond t cell ((cell + flip) % 2) < 2) [ true ↦ h | false ↦ omega arith ]

pub filled_cells : (n flip : ℕ) (cells marks : List ℕ) → Cells n cells → Cells n marks → Cells n (filled flip cells marks)
filled_cells n flip [] marks fc fm = (fc.0, tt)
filled_cells n flip (c ∷ cells) [] fc fm = absurd (omega (arith, fc.0, fm.0))
filled_cells n flip (c ∷ cells) (m ∷ marks) fc fm =
    let rest = filled_cells (length cells) flip cells marks (refl, fc.1.1) (omega (arith, fc.0, fm.0), fm.1.1) in
    (ap suc rest.0 ∙ fc.0, (fill_small flip c m fc.1.0, rest.1))

-- each blank turns the exclusive or where flip is 1
turned_at : (flip cell mark : ℕ) → flip < 2 → mark < 2 → filled_at flip cell mark % 2 ≡ (cell + cond (eqb flip 0) 0 mark) % 2
turned_at flip cell zero hf hm = elim (eqb flip 0) as (λ t. cell % 2 ≡ (cell + cond t 0 0) % 2) [ true ↦ omega arith | false ↦ omega arith ]
turned_at zero cell (suc zero) hf hm = omega arith
turned_at (suc zero) cell (suc zero) hf hm = omega arith
turned_at (suc (suc flip)) cell (suc zero) hf hm = absurd (omega arith)
turned_at flip cell (suc (suc mark)) hf hm = absurd (omega arith)

filled_total : (flip : ℕ) (cells marks : List ℕ) → flip < 2 → length cells ≡ length marks → AllByRecursion (λ b. b < 2) marks → total (filled flip cells marks) % 2 ≡ (total cells + cond (eqb flip 0) 0 (total marks)) % 2
filled_total flip [] [] hf l a = elim (eqb flip 0) as (λ t. 0 ≡ (0 + cond t 0 0) % 2) [ true ↦ refl | false ↦ refl ]
filled_total flip [] (m ∷ marks) hf l a = absurd (omega arith)
filled_total flip (c ∷ cells) [] hf l a = absurd (omega arith)
filled_total flip (c ∷ cells) (m ∷ marks) hf l a =
    by_flip (eqb flip 0) (turned_at flip c m hf a.0) (filled_total flip cells marks hf (omega arith) a.1)
  where
    here : ℕ
    here = filled_at flip c m

    by_flip : (t : Bool) → here % 2 ≡ (c + cond t 0 m) % 2 → total (filled flip cells marks) % 2 ≡ (total cells + cond t 0 (total marks)) % 2 → (here + total (filled flip cells marks)) % 2 ≡ (c + total cells + cond t 0 (m + total marks)) % 2
    by_flip true first rest = omega arith
    by_flip false first rest = omega arith

harmless_at : (flip cell mark : ℕ) → mark < 2 → harm_at cell mark (filled_at flip cell mark) ≡ mark
harmless_at flip cell zero h = ap (λ t. cond t 0 2) (eq-eqb cell cell refl)
harmless_at flip cell (suc zero) h = refl
harmless_at flip cell (suc (suc mark)) h = absurd (omega arith)

-- only the blank cells count against the reading that was filled
pub filled_harm : (flip : ℕ) (cells marks : List ℕ) → length cells ≡ length marks → AllByRecursion (λ b. b < 2) marks → harm cells marks (filled flip cells marks) ≡ total marks
filled_harm flip [] [] l a = refl
filled_harm flip [] (m ∷ marks) l a = absurd (omega arith)
filled_harm flip (c ∷ cells) [] l a = absurd (omega arith)
filled_harm flip (c ∷ cells) (m ∷ marks) l a = omega (arith, harmless_at flip c m a.0, filled_harm flip cells marks (omega arith) a.1)

module _ (n : ℕ) (range : EvenRange n) where
  -- every word of n cells is the word of its own exclusive or and of what its first cells spell
  pub own_row : (a : ℕ) (w : List ℕ) → Cells n w → a ≡ parity w → even_word n (a ∷ spelled (take (n - 1) w) ∷ []) ≡ w
  own_row a w fits odd =
      let firsts = take (n - 1) w in
      let last = get_or w (n - 1) 0 in
      let within : n - 1 < length w = omega (arith, fits.0) in
      let long : length firsts ≡ n - 1 = length-take-le (n - 1) w (omega (arith, fits.0)) in
      let spelling : bits_of (n - 1) (spelled firsts) ≡ firsts = ap (λ k. bits_of k (spelled firsts)) (sym long) ∙ bits_spelled firsts (All-take (λ b. b < 2) (n - 1) w fits.1) in
      let all : n - 1 + 1 ≡ n = omega arith in
      let whole : w ≡ firsts ++ (last ∷ []) = sym (take_all n w (omega (arith, fits.0))) ∙ ap (λ k. take k w) (sym all) ∙ take_more w (n - 1) 0 within in
      let small = All-get_or (λ b. b < 2) w (n - 1) 0 within fits.1 in
      let sum : total w ≡ total firsts + (last + 0) = ap total whole ∙ total_append firsts (last ∷ []) in
      let end : (a + total firsts) % 2 ≡ last = omega (arith, odd, sum, small) in
      ap (λ bs. bs ++ ((a + total bs) % 2 ∷ [])) spelling ∙ ap (λ x. firsts ++ (x ∷ [])) end ∙ sym whole

  pub own_row_fits : (a : ℕ) (w : List ℕ) → Cells n w → a < 2 → Row (even_chain n) (a ∷ spelled (take (n - 1) w) ∷ [])
  own_row_fits a w fits small =
      let firsts = take (n - 1) w in
      let long : length firsts ≡ n - 1 = length-take-le (n - 1) w (omega (arith, fits.0)) in
      let bound = spelled_small firsts (All-take (λ b. b < 2) (n - 1) w fits.1) in
      (refl, (small, (subst (λ (k : ℕ). spelled firsts < 2 ^ k) long bound, tt)))

  module _ (cells marks : List ℕ) (fc : Cells n cells) (fm : Cells n marks) where
    pub first_some : total marks ≡ 0 → Estimates (even_chain n) 1 [] cells marks (Some (record { label = parity cells; harm = 0 }))
    first_some none =
        let u = parity cells ∷ spelled (take (n - 1) cells) ∷ [] in
        let word = own_row (parity cells) cells fc refl in
        let same : harm cells marks (even_word n u) ≡ 0 = ap (harm cells marks) word ∙ own_harm cells marks (fm.0 ∙ sym fc.0) fm.1 ∙ none in
        (u, (own_row_fits (parity cells) cells fc (omega arith), refl), refl, sym same, omega arith)

    pub first_none : 0 < total marks → Estimates (even_chain n) 1 [] cells marks None
    first_none some u follows =
        omega (arith, some, blanks_harm cells marks (even_word n u) (fm.0 ∙ sym fc.0) ((even_cells n range u).0 ∙ sym fc.0) fm.1)

    module _ (odd flip : ℕ) (small : odd < 2) (is : flip ≡ (odd + parity cells) % 2) where
      pub second_some : flip ≤ total marks → total marks ≤ 1 → Estimates (even_chain n) 2 (odd ∷ []) cells marks (Some (record { label = spelled (take (n - 1) (filled flip cells marks)); harm = total marks }))
      second_some enough few =
          let w = filled flip cells marks in
          let u = odd ∷ spelled (take (n - 1) w) ∷ [] in
          let fw = filled_cells n flip cells marks fc fm in
          let word = own_row odd w fw right in
          let same : harm cells marks (even_word n u) ≡ total marks = ap (harm cells marks) word ∙ filled_harm flip cells marks (fc.0 ∙ sym fm.0) fm.1 in
          (u, (own_row_fits odd w fw small, refl), refl, sym same, omega arith)
        where
          by_flip : (t : Bool) → eqb flip 0 ≡ t → odd ≡ (total cells + cond t 0 (total marks)) % 2
          by_flip true e = omega (arith, eqb-true flip 0 e)
          by_flip false e = let ne : flip ≡ 0 → ⊥ = eqb-false flip 0 e in omega arith

          right : odd ≡ parity (filled flip cells marks)
          right = by_flip (eqb flip 0) refl ∙ sym (filled_total flip cells marks (omega arith) (fc.0 ∙ sym fm.0) fm.1)

      pub second_none : (total marks < flip) ⊎ (1 < total marks) → Estimates (even_chain n) 2 (odd ∷ []) cells marks None
      second_none far u follows =
          let fw = even_cells n range u in
          let few = blanks_harm cells marks (even_word n u) (fm.0 ∙ sym fc.0) (fw.0 ∙ sym fc.0) fm.1 in
          let many = differences_harm cells marks (even_word n u) (fm.0 ∙ sym fc.0) (fw.0 ∙ sym fc.0) fm.1 in
          let odds = differences_parity cells (even_word n u) (fc.0 ∙ sym fw.0) fc.1 fw.1 in
          let first : at_stage u 1 ≡ odd = sym (get_or-take 1 u 0 0 (omega arith)) ∙ ap (λ x. get_or x 0 0) follows.1 in
          let own = even_parity n range u (two_labels n u follows.0).0 in
          ⊎_elim (λ none. omega (arith, many, differs (differences cells (even_word n u)) (total cells) (total (even_word n u)) (subst (λ (f : ℕ). total marks < f) is none) odds (own ∙ first))) (λ two. omega (arith, two, few)) far
        where
          -- without a blank to turn, the reading differs somewhere
          differs : (d c w : ℕ) → total marks < (odd + c % 2) % 2 → (c + w + d) % 2 ≡ 0 → w % 2 ≡ odd → 1 ≤ d
          differs d c w turn even own = ⊎_elim (λ none. absurd (omega arith)) (λ some. some) (cases_lt d 1)
