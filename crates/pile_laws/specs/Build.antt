-- How a pile (a generalised concatenated code) builds a codeword: a codeword of each stage's outer code, and in each column the chain's
-- word of the labels that they have there. Assumes nothing.
use Rattle.std.specs.Prelude.{ℕ, zero, suc, ◌+◌, ◌*◌, min, List, [], ◌∷◌, ◌++◌, map, take, drop, slice_index}
use Rattle.chains.specs.Bits.{bits_of, spelled}
use Rattle.chains.specs.Model.{ChainModel}
use Rattle.codes.specs.Model.{CodeModel}

-- k symbols of m bits each, most significant bit first
abbrev pub symbols : ℕ → ℕ → List ℕ → List ℕ
symbols m zero bits = []
symbols m (suc k) bits = spelled (take m bits) ∷ symbols m k (drop m bits)

-- and the bits that spell symbols of m bits each
abbrev pub spelled_out : ℕ → List ℕ → List ℕ
spelled_out m [] = []
spelled_out m (x ∷ xs) = bits_of m x ++ spelled_out m xs

-- how many bits a code's message takes
abbrev pub stage_bits : CodeModel → ℕ
stage_bits c = c.message_len * c.width

-- the message of each stage: the bits fill stage 1 first, symbol by symbol
abbrev pub stage_messages : List CodeModel → List ℕ → List (List ℕ)
stage_messages [] bits = []
stage_messages (c ∷ cs) bits = symbols c.width c.message_len bits ∷ stage_messages cs (drop (stage_bits c) bits)

-- the message whose stages have these
abbrev pub joined_bits : List CodeModel → List (List ℕ) → List ℕ
joined_bits [] us = []
joined_bits (c ∷ cs) [] = []
joined_bits (c ∷ cs) (u ∷ us) = spelled_out c.width u ++ joined_bits cs us

-- the codeword of each stage
abbrev pub encoded : List CodeModel → List (List ℕ) → List (List ℕ)
encoded [] us = []
encoded (c ∷ cs) [] = []
encoded (c ∷ cs) (u ∷ us) = c.codeword u ∷ encoded cs us

abbrev pub stage_words : List CodeModel → List ℕ → List (List ℕ)
stage_words cs bits = encoded cs (stage_messages cs bits)

-- the labels of column j, one from each stage's codeword
abbrev pub labels_at : List (List ℕ) → ℕ → List ℕ
labels_at words j = map (λ w. slice_index w j) words

-- the words of k columns from column j on, one behind the other
abbrev pub laid_from : ChainModel → List (List ℕ) → ℕ → ℕ → List ℕ
laid_from h words zero j = []
laid_from h words (suc k) j = h.word (labels_at words j) ++ laid_from h words k (suc j)

abbrev pub laid : ChainModel → ℕ → List (List ℕ) → List ℕ
laid h n words = laid_from h words n 0

-- the number of columns, which is the length of stage 1's code
abbrev pub columns : List CodeModel → ℕ
columns [] = 0
columns (c ∷ cs) = c.len

abbrev pub total_bits : List CodeModel → ℕ
total_bits [] = 0
total_bits (c ∷ cs) = stage_bits c + total_bits cs

-- the inner times the outer distance of each stage, from stage i on
abbrev pub stage_reaches : ChainModel → ℕ → List CodeModel → List ℕ
stage_reaches h i [] = []
stage_reaches h i (c ∷ cs) = h.distance i * c.distance ∷ stage_reaches h (suc i) cs

-- the least of some numbers
abbrev pub least : ℕ → List ℕ → ℕ
least m [] = m
least m (x ∷ xs) = least (min m x) xs

abbrev pub smallest : List ℕ → ℕ
smallest [] = 0
smallest (x ∷ xs) = least x xs

-- the reach: the least inner times outer distance over the stages
abbrev pub reach : ChainModel → List CodeModel → ℕ
reach h cs = smallest (stage_reaches h 1 cs)
