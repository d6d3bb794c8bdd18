-- The worked examples, computed. Assumes nothing.
use Rattle.std.proofs.Common.{ℕ, List, [], ◌∷◌, refl, arith}
use Rattle.chains.specs.Examples.{MullerExamples}
use Rattle.chains.specs.ReedMuller.{MullerRange}
use Rattle.chains.specs.Votes.{subsets}
use Rattle.chains.specs.MullerColumns.{cells_tell}
use Rattle.chains.specs.MullerWords.{muller_some, muller_none}

three : MullerRange 3
three = (omega arith, omega arith)

pub muller_examples : MullerExamples
unfolding subsets
muller_examples =
    let zeros : List ℕ = 0 ∷ 0 ∷ 0 ∷ 0 ∷ 0 ∷ 0 ∷ 0 ∷ 0 ∷ [] in
    let five : List ℕ = 1 ∷ 1 ∷ 1 ∷ 1 ∷ 1 ∷ 0 ∷ 0 ∷ 0 ∷ [] in
    let four : List ℕ = 1 ∷ 1 ∷ 1 ∷ 1 ∷ 0 ∷ 0 ∷ 0 ∷ 0 ∷ [] in
    let labels : List ℕ = 0 ∷ 0 ∷ 0 ∷ [] in
    record {
      word = refl;
      near = muller_some 3 three 4 labels five zeros (omega arith) (omega arith) refl (cells_tell 8 five refl) (cells_tell 8 zeros refl) (omega arith) (omega arith);
      absent = muller_none 3 three 4 labels four zeros (omega arith) (omega arith) refl (cells_tell 8 four refl) (cells_tell 8 zeros refl) (omega arith) (omega arith);
    }
