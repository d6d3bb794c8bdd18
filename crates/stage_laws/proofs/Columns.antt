-- The score over the columns, and what the checks of the columns have shown. Assumes nothing.
use Rattle.std.proofs.Common.{◌≡◌, ℕ, suc, ◌+◌, ◌-◌, ◌*◌, ◌^◌, ◌<◌, ◌≤◌, true, false, cond, eqb, ltb, List, [], ◌∷◌, length, sum_by, zip, Some, None, Option, sym, refl, ap, ◌∙◌, mul-le-mul_right, arith, pow_pos}
use Rattle.std.proofs.Math.Nat.{suc-mul}
use Rattle.std.specs.List.{AllByRecursion}
use Rattle.std.proofs.lemmas.List.Sums.{sum_by-cons}
use Rattle.std.proofs.lemmas.Bool.{and_parts, eqb-true, ltb-true}
use Rattle.words.proofs.Passes.{none_left, none_right, passed, passed_on}
use Rattle.chains.specs.declared.chain.Estimate.{Estimate}
use Rattle.codes.specs.Model.{CodeModel}
use Rattle.stage_laws.specs.Rule.{score_at, score, Within}
use Rattle.stage_laws.specs.Promises.{fits_column, first_large, length_refusal, choose_refusal}
use Rattle.stage_laws.specs.Trials.{trial_symbol, Fitting}

-- the score as the library sums it
pub score_summed : (d : ℕ) (es : List (Option Estimate)) (word : List ℕ) → score d es word ≡ sum_by (λ (p : Option Estimate × ℕ). score_at d p.0 p.1) (zip es word)
score_summed d [] word = refl
score_summed d (e ∷ es) [] = refl
score_summed d (e ∷ es) (x ∷ word) =
    ap (λ k. score_at d e x + k) (score_summed d es word) ∙ sym (sum_by-cons (λ (p : Option Estimate × ℕ). score_at d p.0 p.1) (e, x) (zip es word))

-- a column whose harm lies below the inner distance d scores twice that at most
at_most_twice : (d : ℕ) (e : Option Estimate) (x : ℕ) → Within d e → score_at d e x ≤ 2 * d
at_most_twice d None x w = omega arith
at_most_twice d (Some e) x w = elim (eqb e.label x) as (λ t. cond t e.harm (2 * d - e.harm) ≤ 2 * d) [ true ↦ omega arith | false ↦ omega arith ]

score_small : (d : ℕ) (es : List (Option Estimate)) (word : List ℕ) → AllByRecursion (Within d) es → score d es word ≤ length es * (2 * d)
score_small d [] word w = omega arith
score_small d (e ∷ es) [] w = omega arith
score_small d (e ∷ es) (x ∷ word) w = omega (arith, at_most_twice d e x w.0, score_small d es word w.1, suc-mul (length es) (2 * d))

pub score_fits : (d : ℕ) (es : List (Option Estimate)) (word : List ℕ) → d < 256 → length es ≤ 4096 → AllByRecursion (Within d) es → sum_by (λ (p : Option Estimate × ℕ). score_at d p.0 p.1) (zip es word) < 2 ^ 64
score_fits d es word small short w =
    omega (arith, sym (score_summed d es word), score_small d es word w, mul-le-mul_right (2 * d) short)

-- what the checks have shown once they pass
column_fits : (symbols d : ℕ) (e : Option Estimate) → 0 < symbols → fits_column symbols d e ≡ true → (trial_symbol e < symbols) × Within d e
column_fits symbols d None some t = (some, tt)
column_fits symbols d (Some e) some t = let p = and_parts (ltb e.label symbols) (ltb e.harm d) t in (ltb-true _ _ p.0, ltb-true _ _ p.1)

columns_fit : (symbols d j : ℕ) (es : List (Option Estimate)) → 0 < symbols → first_large symbols d j es ≡ None → AllByRecursion (λ e. trial_symbol e < symbols) es × AllByRecursion (Within d) es
columns_fit symbols d j [] some e = (tt, tt)
columns_fit symbols d j (x ∷ es) some e =
    let p = passed_on (fits_column symbols d x) _ (first_large symbols d (suc j) es) e in
    let here = column_fits symbols d x some p.0 in
    let rest = columns_fit symbols d (suc j) es some p.1 in
    ((here.0, rest.0), (here.1, rest.1))

pub fitting : (c : CodeModel) (d : ℕ) (es : List (Option Estimate)) (word : List ℕ) → choose_refusal c d es word ≡ None → Fitting c d es × (length word ≡ c.len)
fitting c d es word e =
    let rest = none_right (length_refusal c.len (length es)) _ e in
    let small = columns_fit (2 ^ c.width) d 0 es (pow_pos c.width) (none_right (length_refusal c.len (length word)) _ rest) in
    ((eqb-true _ _ (passed _ _ (none_left _ _ e)), small.0, small.1), eqb-true _ _ (passed _ _ (none_left _ _ rest)))
