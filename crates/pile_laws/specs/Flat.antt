-- The words of several stages in one row, one behind the other. Assumes nothing.
use Rattle.std.specs.Prelude.{ℕ, List, map}
use Rattle.std.specs.List.{range_with_len}
use Rattle.pile_laws.specs.Stages.{column}

abbrev pub words_in : ℕ → ℕ → List ℕ → List (List ℕ)
words_in n s row = map (λ k. column n k row) (range_with_len 0 s)
