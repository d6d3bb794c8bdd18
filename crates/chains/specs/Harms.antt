-- The harm of a reading of bits against a word, and the reading's blanks. Assumes nothing.
use Rattle.std.specs.Prelude.{◌≡◌, ℕ, zero, suc, ◌+◌, ◌*◌, ◌<◌, ◌≤◌, true, false, cond, List, [], ◌∷◌, length, ◌==◌, refl}
use Rattle.std.proofs.Common.{ap, arith}
use Rattle.std.specs.List.{AllByRecursion}
use Rattle.std.proofs.lemmas.Bool.{eq-eqb}
use Rattle.words.specs.Distance.{differences}
use Rattle.words.specs.Harm.{harm, harm_at}
use Rattle.chains.specs.Bits.{total}

blank_at : (cell mark sent : ℕ) → mark < 2 → mark ≤ harm_at cell mark sent
blank_at cell zero sent h = omega arith
blank_at cell (suc zero) sent h = omega arith
blank_at cell (suc (suc mark)) sent h = absurd (omega arith)

-- each blank counts
pub blanks_harm : (cells marks word : List ℕ) → length marks ≡ length cells → length word ≡ length cells → AllByRecursion (λ b. b < 2) marks → total marks ≤ harm cells marks word
blanks_harm [] [] word lm lw a = omega arith
blanks_harm [] (m ∷ marks) word lm lw a = absurd (omega arith)
blanks_harm (c ∷ cells) [] word lm lw a = absurd (omega arith)
blanks_harm (c ∷ cells) (m ∷ marks) [] lm lw a = absurd (omega arith)
blanks_harm (c ∷ cells) (m ∷ marks) (w ∷ word) lm lw a =
    omega (arith, blank_at c m w a.0, blanks_harm cells marks word (omega arith) (omega arith) a.1)

differs_at : (cell mark sent : ℕ) → mark < 2 → 2 * cond (cell == sent) 0 1 ≤ harm_at cell mark sent + mark
differs_at cell zero sent h = elim (cell == sent) as (λ t. 2 * cond t 0 1 ≤ cond t 0 2 + 0) [ true ↦ omega arith | false ↦ omega arith ]
differs_at cell (suc zero) sent h = elim (cell == sent) as (λ t. 2 * cond t 0 1 ≤ 1 + 1) [ true ↦ omega arith | false ↦ omega arith ]
differs_at cell (suc (suc mark)) sent h = absurd (omega arith)

-- and each readable cell that is wrong counts twice
pub differences_harm : (cells marks word : List ℕ) → length marks ≡ length cells → length word ≡ length cells → AllByRecursion (λ b. b < 2) marks → 2 * differences cells word ≤ harm cells marks word + total marks
differences_harm [] marks word lm lw a = omega arith
differences_harm (c ∷ cells) [] word lm lw a = absurd (omega arith)
differences_harm (c ∷ cells) (m ∷ marks) [] lm lw a = absurd (omega arith)
differences_harm (c ∷ cells) (m ∷ marks) (w ∷ word) lm lw a =
    omega (arith, differs_at c m w a.0, differences_harm cells marks word (omega arith) (omega arith) a.1)

own_at : (cell mark : ℕ) → mark < 2 → harm_at cell mark cell ≡ mark
own_at cell zero h = ap (λ t. cond t 0 2) (eq-eqb cell cell refl)
own_at cell (suc zero) h = refl
own_at cell (suc (suc mark)) h = absurd (omega arith)

-- against its own cells only the blanks of a reading count
pub own_harm : (cells marks : List ℕ) → length marks ≡ length cells → AllByRecursion (λ b. b < 2) marks → harm cells marks cells ≡ total marks
own_harm [] [] l a = refl
own_harm [] (m ∷ marks) l a = absurd (omega arith)
own_harm (c ∷ cells) [] l a = absurd (omega arith)
own_harm (c ∷ cells) (m ∷ marks) l a = omega (arith, own_at c m a.0, own_harm cells marks (omega arith) a.1)
