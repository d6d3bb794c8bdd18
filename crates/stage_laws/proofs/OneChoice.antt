-- At most one codeword scores below the inner times the outer distance. Assumes nothing.
use Rattle.std.proofs.Common.{◌≡◌, ℕ, ◌+◌, ◌-◌, ◌*◌, ◌≤◌, Bool, true, false, cond, eqb, List, [], ◌∷◌, length, Some, None, Option, sym, refl, ◌∙◌, mul_assoc, mul-le-mul_left, mul-zero, mul-suc, mul-add, arith}
use mathlib.Core.List.{List-discrete}
use native.Mathlib.Decide.{ℕ_discrete}
use Rattle.std.specs.List.{AllByRecursion}
use Rattle.std.proofs.lemmas.Bool.{eqb-true, eq-eqb}
use Rattle.words.specs.Distance.{differences}
use Rattle.chains.specs.declared.chain.Estimate.{Estimate}
use Rattle.codes.specs.Model.{CodeModel, Lawful}
use Rattle.stage_laws.specs.Rule.{score_at, score, Within, OneChoice}

-- at most one of two symbols that differ agrees with the estimate
apart_at : (d : ℕ) (e : Option Estimate) (a b : ℕ) → Within d e → cond (eqb a b) 0 (2 * d) ≤ score_at d e a + score_at d e b
apart_at d None a b w = by (eqb a b)
  where
    by : (t : Bool) → cond t 0 (2 * d) ≤ d + d
    by true = omega arith
    by false = omega arith
apart_at d (Some e) a b w = by (eqb e.label a) (eqb e.label b) (eqb a b) (λ p q. eq-eqb a b (sym (eqb-true _ a p) ∙ eqb-true _ b q))
  where
    by : (u v t : Bool) → (u ≡ true → v ≡ true → t ≡ true) → cond t 0 (2 * d) ≤ cond u e.harm (2 * d - e.harm) + cond v e.harm (2 * d - e.harm)
    by u v true same = omega arith
    by false false false same = omega arith
    by false true false same = omega arith
    by true false false same = omega arith
    by true true false same = let no : false ≡ true = same refl refl in let z : ◌≡◌ {A = ℕ} 0 1 = cc in omega arith

-- so the scores of two words add up to 2·d for each place where they differ
pub scores_apart : (d : ℕ) (es : List (Option Estimate)) (a b : List ℕ) → AllByRecursion (Within d) es → length a ≡ length es → length b ≡ length es → 2 * d * differences a b ≤ score d es a + score d es b
scores_apart d es [] b w la lb = omega (arith, mul-zero (2 * d))
scores_apart d es (x ∷ a) [] w la lb = omega (arith, mul-zero (2 * d))
scores_apart d [] (x ∷ a) (y ∷ b) w la lb = absurd (omega arith)
scores_apart d (e ∷ es) (x ∷ a) (y ∷ b) w la lb =
    by (eqb x y) (apart_at d e x y w.0) (scores_apart d es a b w.1 (omega arith) (omega arith))
  where
    by : (t : Bool) → cond t 0 (2 * d) ≤ score_at d e x + score_at d e y → 2 * d * differences a b ≤ score d es a + score d es b → 2 * d * (cond t 0 1 + differences a b) ≤ score_at d e x + score d es a + (score_at d e y + score d es b)
    by true here rest = omega (arith, mul-add (2 * d) 0 (differences a b), mul-zero (2 * d))
    by false here rest = omega (arith, mul-add (2 * d) 1 (differences a b), mul-suc (2 * d) 0, mul-zero (2 * d))

pub one_choice : (c : CodeModel) → Lawful c → (d : ℕ) (es : List (Option Estimate)) → length es ≡ c.len → AllByRecursion (Within d) es → OneChoice c d es
one_choice c lawful d es le w u v cu cv = by (List-discrete ℕ_discrete u v)
  where
    far : (u ≡ v → ⊥) → ⊥
    far ne =
        let lu = (lawful.symbols u cu.0).0 in
        let lv = (lawful.symbols v cv.0).0 in
        let apart = lawful.apart u v cu.0 cv.0 ne in
        omega (arith, mul_assoc 2 d c.distance, mul-le-mul_left (2 * d) apart, scores_apart d es (c.codeword u) (c.codeword v) w (lu ∙ sym le) (lv ∙ sym le), cu.1, cv.1)

    by : Dec (u ≡ v) → u ≡ v
    by (yes e) = e
    by (no ne) = absurd (far ne)
