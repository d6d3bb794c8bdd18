-- The harms of the trials at the thresholds 1 to d add up to the score. Assumes nothing.
use Rattle.std.proofs.Common.{◌≡◌, ℕ, zero, suc, ◌+◌, ◌-◌, ◌*◌, ◌<◌, ◌≤◌, min, Bool, true, false, cond, eqb, ltb, List, [], ◌∷◌, Some, None, Option, refl, ◌∙◌, ap₂, suc-mul, zero-mul, arith}
use Rattle.std.specs.List.{AllByRecursion}
use Rattle.std.proofs.lemmas.Bool.{ltb-true, ltb-false}
use Rattle.words.specs.Harm.{harm_at}
use Rattle.chains.specs.declared.chain.Estimate.{Estimate}
use Rattle.stage_laws.specs.Rule.{score_at, score, Within}
use Rattle.stage_laws.specs.Trials.{trial_symbol, trial_mark, trial_harm}

-- one column's harm, and all columns' harm, added up over the thresholds 1 to k
abbrev column_harms : ℕ → Option Estimate → ℕ → ℕ
column_harms zero e x = 0
column_harms (suc k) e x = harm_at (trial_symbol e) (trial_mark (suc k) e) x + column_harms k e x

abbrev pub trial_harms : ℕ → List (Option Estimate) → List ℕ → ℕ
trial_harms zero es word = 0
trial_harms (suc k) es word = trial_harm (suc k) es word + trial_harms k es word

absent_column : (k x : ℕ) → column_harms k None x ≡ k
absent_column zero x = refl
absent_column (suc k) x = omega (arith, absent_column k x)

-- a column counts once at each threshold that its harm reaches, and beyond them not at all, or twice where it differs
estimated_column : (k : ℕ) (e : Estimate) (x : ℕ) → column_harms k (Some e) x ≡ min k e.harm + cond (eqb e.label x) 0 (2 * (k - e.harm))
estimated_column zero e x = by (eqb e.label x)
  where
    by : (t : Bool) → 0 ≡ min 0 e.harm + cond t 0 (2 * (0 - e.harm))
    by true = omega arith
    by false = omega arith
estimated_column (suc k) e x = by (ltb e.harm (suc k)) (eqb e.label x) (λ p. ltb-true _ _ p) (λ p. ltb-false _ _ p) (estimated_column k e x)
  where
    by : (b t : Bool) → (b ≡ true → e.harm < suc k) → (b ≡ false → suc k ≤ e.harm) → column_harms k (Some e) x ≡ min k e.harm + cond t 0 (2 * (k - e.harm)) → cond (eqb (cond b 0 1) 0) (cond t 0 2) 1 + column_harms k (Some e) x ≡ min (suc k) e.harm + cond t 0 (2 * (suc k - e.harm))
    by true true below above rest = omega (arith, below refl)
    by true false below above rest = omega (arith, below refl)
    by false true below above rest = omega (arith, above refl)
    by false false below above rest = omega (arith, above refl)

column : (d : ℕ) (e : Option Estimate) (x : ℕ) → Within d e → column_harms d e x ≡ score_at d e x
column d None x w = absent_column d x
column d (Some e) x w = estimated_column d e x ∙ by (eqb e.label x)
  where
    by : (t : Bool) → min d e.harm + cond t 0 (2 * (d - e.harm)) ≡ cond t e.harm (2 * d - e.harm)
    by true = omega arith
    by false = omega arith

-- column by column
split : (k : ℕ) (e : Option Estimate) (es : List (Option Estimate)) (x : ℕ) (word : List ℕ) → trial_harms k (e ∷ es) (x ∷ word) ≡ column_harms k e x + trial_harms k es word
split zero e es x word = refl
split (suc k) e es x word = omega (arith, split k e es x word)

no_columns : (k : ℕ) (word : List ℕ) → trial_harms k [] word ≡ 0
no_columns zero word = refl
no_columns (suc k) word = omega (arith, no_columns k word)

no_word : (k : ℕ) (e : Option Estimate) (es : List (Option Estimate)) → trial_harms k (e ∷ es) [] ≡ 0
no_word zero e es = refl
no_word (suc k) e es = omega (arith, no_word k e es)

pub forney : (d : ℕ) (es : List (Option Estimate)) (word : List ℕ) → AllByRecursion (Within d) es → trial_harms d es word ≡ score d es word
forney d [] word w = no_columns d word
forney d (e ∷ es) [] w = no_word d e es
forney d (e ∷ es) (x ∷ word) w = split d e es x word ∙ ap₂ (λ (a b : ℕ). a + b) (column d e x w.0) (forney d es word w.1)

-- where each trial's harm is at least D, so is their mean
pub far_in_all : (k D : ℕ) (es : List (Option Estimate)) (word : List ℕ) → ((t : ℕ) → 1 ≤ t → t ≤ k → D ≤ trial_harm t es word) → k * D ≤ trial_harms k es word
far_in_all zero D es word far = omega (arith, zero-mul D)
far_in_all (suc k) D es word far =
    omega (arith, suc-mul k D, far (suc k) (omega arith) (omega arith), far_in_all k D es word (λ t low high. far t low (omega arith)))
