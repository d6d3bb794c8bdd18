-- The exclusive or of a row of bits. Assumes nothing.
use Rattle.std.specs.Prelude.{ℕ, ◌+◌, ◌%◌, List, [], ◌∷◌}
pub use Rattle.words.specs.Bits.{bits_of, spelled}

abbrev pub total : List ℕ → ℕ
total [] = 0
total (x ∷ xs) = x + total xs

-- the exclusive or of a row of bits: 1 exactly where an odd number of them are 1
abbrev pub parity : List ℕ → ℕ
parity bs = total bs % 2
