-- The chain and the codes that a recipe names make a pile with the recipe's numbers. Assumes nothing.
use Rattle.std.proofs.Common.{◌≡◌, ℕ, suc, ◌+◌, ◌*◌, ◌<◌, ◌≤◌, min, cond, leb, List, [], ◌∷◌, map, length, get_or, Some, None, sum_by, Option, sym, refl, ap, ◌∙◌, subst, ap₂, arith}
use mathlib.Core.Logic.{∥∥₁_elim}
use native.Mathlib.Bridge.{le_prop}
use Rattle.std.specs.List.{AllByRecursion}
use Rattle.std.proofs.lemmas.List.{get_or-take}
use Rattle.std.proofs.lemmas.List.Sums.{sum_by-cons}
use Rattle.std.proofs.lemmas.Bool.{and_from, cond-true, cond-false, eq-eqb, le-leb, lt-leb}
use Rattle.words.specs.Buffers.{either}
use Rattle.chains.specs.Model.{ChainModel}
use Rattle.codes.specs.Model.{CodeModel}
use Rattle.recipes.specs.declared.kinds.ChainKind.{ChainKind}
use Rattle.recipes.specs.declared.table.Stage.{Stage}
use Rattle.recipes.specs.declared.table.Table.{Table}
use Rattle.recipes.specs.Chains.{Known, stages_of}
use Rattle.recipes.specs.Meaning.{Lawful}
use Rattle.recipes.specs.Stages.{blank}
use Rattle.recipes.specs.Totals as totals
use Rattle.recipes.specs.Totals.{used_stages, page_cells, message_bits, reach_of, stage_reach}
use Rattle.recipes.proofs.Bounds.{known_chain, cells_within, length_used, some_used}
use Rattle.recipes.proofs.Filling.{few_columns}
use Rattle.recipes.proofs.Triangle.{width_small}
use Rattle.pile_laws.specs.Build.{columns, least, smallest, stage_reaches, total_bits}
use Rattle.pile_laws.specs.Fit.{Fits, fits_stage, unfit_from}
use Rattle.recipe_pile_laws.specs.Named.{named_chain, stage_code, table_codes}
use Rattle.recipe_pile_laws.specs.Numbers.{ChainNumbers, Makeable, PileDescribed}
use Rattle.recipe_pile_laws.proofs.Chains.{chain_numbers}
use Rattle.recipe_pile_laws.proofs.Codes.{Numbered, code_numbers, some_width, table_numbered}

-- the records of the stages from index i on
abbrev EachNumbered : ChainKind → ℕ → ℕ → List Stage → Type 0
EachNumbered chain n i [] = Unit {0}
EachNumbered chain n i (s ∷ ss) = Numbered chain n i s × EachNumbered chain n (suc i) ss

each_from : (chain : ChainKind) (n i : ℕ) (ss : List Stage) → ((j : ℕ) → j < length ss → Numbered chain n (i + j) (get_or ss j blank)) → EachNumbered chain n i ss
each_from chain n i [] f = tt
each_from chain n i (s ∷ ss) f =
    let here : i + 0 ≡ i = omega arith in
    (subst (λ (m : ℕ). Numbered chain n m s) here (f 0 (omega arith)), each_from chain n (suc i) ss later)
  where
    later : (j : ℕ) → j < length ss → Numbered chain n (suc i + j) (get_or ss j blank)
    later j l =
        let there : i + suc j ≡ suc i + j = omega arith in
        subst (λ (m : ℕ). Numbered chain n m (get_or ss j blank)) there (f (suc j) (omega arith))

used_numbered : (t : Table) → ∥ Lawful t ∥₁ → EachNumbered t.chain t.columns 0 (used_stages t)
used_numbered t h = each_from t.chain t.columns 0 (used_stages t) at
  where
    at : (j : ℕ) → j < length (used_stages t) → Numbered t.chain t.columns (0 + j) (get_or (used_stages t) j blank)
    at j l =
        let within : j < stages_of t.chain = omega (arith, length_used t h) in
        let here : j ≡ 0 + j = omega arith in
        subst (λ (m : ℕ). Numbered t.chain t.columns m (get_or (used_stages t) j blank)) here
        (subst (Numbered t.chain t.columns j) (sym (get_or-take (stages_of t.chain) t.stages j blank within)) (table_numbered t h j within))

-- each of them is the record of a code that can be made
each_makeable : (chain : ChainKind) (n i : ℕ) (ss : List Stage) → Known chain → 0 < n → n ≤ 4096 → i + length ss ≡ stages_of chain → EachNumbered chain n i ss → AllByRecursion Makeable ss
each_makeable chain n i [] known some few e each = tt
each_makeable chain n i (s ∷ ss) known some few e each =
    let here : i < stages_of chain = omega arith in (
      record {
        some_width = omega (arith, each.0.0, some_width chain i known here);
        narrow = omega (arith, each.0.0, width_small chain i known here);
        some_places = omega (arith, each.0.1.1.0);
        short = omega (arith, each.0.1.1.0);
        even = each.0.1.1.1.1.0;
        sized = each.0.1.1.1.1.1;
      },
      each_makeable chain n (suc i) ss known some few (omega arith) each.1,
    )

pub all_makeable : (t : Table) → ∥ Lawful t ∥₁ → AllByRecursion Makeable (used_stages t)
all_makeable t lawful =
    each_makeable t.chain t.columns 0 (used_stages t) (known_chain t lawful) (∥∥₁_elim lawful le_prop (λ l. l.some_columns))
    (few_columns t.chain t.columns (known_chain t lawful) (cells_within t lawful))
    (omega (arith, length_used t lawful))
    (used_numbered t lawful)

module _ (chain : ChainKind) (h : ChainModel) (numbers : ChainNumbers chain h) (n : ℕ) where
  fit_from : (i : ℕ) (ss : List Stage) → i + length ss ≡ stages_of chain → EachNumbered chain n i ss → unfit_from h n (suc i) (map stage_code ss) ≡ None
  fit_from i [] e each =
      cond-false (leb (suc i) h.stages) _ _ (lt-leb (suc i) h.stages (omega (arith, numbers.stages)))
  fit_from i (s ∷ ss) e each =
      let code = code_numbers s each.0.1.1.1 in
      let stage = le-leb (suc i) h.stages (omega (arith, numbers.stages)) in
      let width = eq-eqb (stage_code s).width (h.width (suc i)) (code.width ∙ each.0.0 ∙ sym (numbers.width i (omega arith))) in
      let len = eq-eqb (stage_code s).len n (code.len ∙ each.0.1.1.0) in
      cond-true (fits_stage h n (suc i) (stage_code s)) _ _ (and_from _ _ stage (and_from _ _ width len))
      ∙ fit_from (suc i) ss (omega arith) each.1

  bits_same : (i : ℕ) (ss : List Stage) → EachNumbered chain n i ss → total_bits (map stage_code ss) ≡ sum_by totals.stage_bits ss
  bits_same i [] each = refl
  bits_same i (s ∷ ss) each =
      let code = code_numbers s each.0.1.1.1 in
      ap₂ ◌+◌ (ap₂ ◌*◌ code.message_len code.width) (bits_same (suc i) ss each.1) ∙ sym (sum_by-cons totals.stage_bits s ss)

  reaches_same : (i : ℕ) (ss : List Stage) → i + length ss ≡ stages_of chain → EachNumbered chain n i ss → stage_reaches h (suc i) (map stage_code ss) ≡ map stage_reach ss
  reaches_same i [] e each = refl
  reaches_same i (s ∷ ss) e each =
      let code = code_numbers s each.0.1.1.1 in
      ap₂ ◌∷◌ (ap₂ ◌*◌ (numbers.distance i (omega arith) ∙ sym each.0.1.0) code.distance) (reaches_same (suc i) ss (omega arith) each.1)

  columns_same : (i : ℕ) (ss : List Stage) → 0 < length ss → EachNumbered chain n i ss → columns (map stage_code ss) ≡ n
  columns_same i [] l each = absurd (omega arith)
  columns_same i (s ∷ ss) l each = (code_numbers s each.0.1.1.1).len ∙ each.0.1.1.0

least_same : (m : ℕ) (xs : List ℕ) → least m xs ≡ totals.least m xs
least_same m [] = refl
least_same m (x ∷ xs) = least_same (min m x) xs

smallest_same : (xs : List ℕ) → smallest xs ≡ totals.smallest xs
smallest_same [] = refl
smallest_same (x ∷ xs) = least_same x xs

fits_from : (h : ChainModel) (cs : List CodeModel) (n : ℕ) → columns cs ≡ n → unfit_from h n 1 cs ≡ None → h.breadth * n ≤ 4096 → Fits h cs
fits_from h cs n e stages cells =
    subst (λ (m : ℕ). either (unfit_from h m 1 cs) (cond (leb (h.breadth * m) 4096) None (Some 0)) ≡ None) (sym e)
    (ap (λ (x : Option ℕ). either x (cond (leb (h.breadth * n) 4096) None (Some 0))) stages
    ∙ cond-true (leb (h.breadth * n) 4096) _ _ (le-leb (h.breadth * n) 4096 cells))

pub pile_described : (t : Table) → ∥ Lawful t ∥₁ → PileDescribed t (named_chain t.chain) (table_codes t)
pile_described t lawful =
    let h = named_chain t.chain in
    let numbers = chain_numbers t.chain (known_chain t lawful) in
    let each = used_numbered t lawful in
    let many : 0 + length (used_stages t) ≡ stages_of t.chain = omega (arith, length_used t lawful) in
    let n = t.columns in
    let ss = used_stages t in
    let cells = ap (λ m. m * n) numbers.breadth in
    let are-columns = columns_same t.chain h numbers n 0 ss (some_used t lawful) each in
    record {
      chain = numbers;
      fits = fits_from h (table_codes t) n are-columns (fit_from t.chain h numbers n 0 ss many each) (subst (λ (m : ℕ). m ≤ 4096) (sym cells) (cells_within t lawful));
      numbers = record {
        cells = ap (λ m. h.breadth * m) are-columns ∙ cells;
        bits = bits_same t.chain h numbers n 0 ss each;
        reach = ap smallest (reaches_same t.chain h numbers n 0 ss many each) ∙ smallest_same (map stage_reach ss);
      };
    }
