-- How far a word lies from a codeword. Assumes nothing.
use Rattle.std.specs.Prelude.{ℕ, ◌+◌, min, cond, List, [], ◌∷◌, length, ◌==◌}
use Rattle.words.specs.Buffers.{Given}

-- the harm at one place: 1 where it is blank (an erasure), else 2 where the symbol is wrong (an error)
abbrev pub harm_at : ℕ → ℕ → ℕ → ℕ
harm_at symbol mark sent = cond (mark == 0) (cond (symbol == sent) 0 2) 1

-- the harm of a word, beside its marks, against a codeword: twice the wrong readable places plus the blank ones
abbrev pub harm : List ℕ → List ℕ → List ℕ → ℕ
harm [] marks codeword = 0
harm (symbol ∷ word) [] codeword = 0
harm (symbol ∷ word) (mark ∷ marks) [] = 0
harm (symbol ∷ word) (mark ∷ marks) (sent ∷ codeword) = harm_at symbol mark sent + harm word marks codeword

-- what harm is measured on: a word of at most 4,096 places, its marks, and a codeword of the same length
abbrev pub harm_buffers : List ℕ → List ℕ → List ℕ → List Given
harm_buffers word marks codeword =
    let places = min (length word) 4096 in
    record { content = word; wanted = places; below = 256 }
    ∷ record { content = marks; wanted = places; below = 2 }
    ∷ record { content = codeword; wanted = places; below = 256 }
    ∷ []
