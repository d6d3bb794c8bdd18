-- The chain of all words of n cells: first whether the number of ones is odd, then which word it is. Assumes nothing.
use Rattle.std.specs.Prelude.{◌≡◌, ℕ, ◌+◌, ◌-◌, ◌%◌, ◌≤◌, cond, List, [], ◌∷◌, ◌++◌, take, ◌==◌}
use Rattle.chains.specs.Bits.{bits_of, spelled, total, parity}
use Rattle.chains.specs.Model.{ChainModel, Row, at_stage}

abbrev pub EvenRange : ℕ → Type 0
EvenRange n = (2 ≤ n) × (n ≤ 9)

abbrev pub even_widths : ℕ → List ℕ
even_widths n = 1 ∷ (n - 1) ∷ []

-- the bits of label 2, and then the cell that makes label 1 the exclusive or of all
abbrev pub even_word : ℕ → List ℕ → List ℕ
even_word n u = let firsts = bits_of (n - 1) (at_stage u 2) in firsts ++ ((at_stage u 1 + total firsts) % 2 ∷ [])

abbrev pub even_chain : ℕ → ChainModel
even_chain n = record { breadth = n; stages = 2; width = at_stage (even_widths n); distance = λ i. i; word = even_word n }

-- label 1 is the exclusive or of all cells, and label 2 is spelled by the first n − 1 of them
abbrev pub EvenMeaning : ℕ → Type 0
EvenMeaning n =
    (u : List ℕ) → Row (even_chain n) u → (parity (even_word n u) ≡ at_stage u 1) × (spelled (take (n - 1) (even_word n u)) ≡ at_stage u 2)

-- a cell of a reading, turned where it is blank and flip is 1
abbrev pub filled_at : ℕ → ℕ → ℕ → ℕ
filled_at flip cell mark = cond (mark == 0) cell ((cell + flip) % 2)

abbrev pub filled : ℕ → List ℕ → List ℕ → List ℕ
filled flip [] marks = []
filled flip (cell ∷ cells) [] = []
filled flip (cell ∷ cells) (mark ∷ marks) = filled_at flip cell mark ∷ filled flip cells marks
