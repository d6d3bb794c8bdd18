-- Numbers as rows of bits. Assumes nothing.
use Rattle.std.specs.Prelude.{ℕ, zero, suc, ◌+◌, ◌*◌, ◌/◌, ◌%◌, ◌^◌, List, [], ◌∷◌, length}

-- the lowest k bits of a number, most significant first
abbrev pub bits_of : ℕ → ℕ → List ℕ
bits_of zero x = []
bits_of (suc k) x = (x / 2 ^ k) % 2 ∷ bits_of k x

-- the number that a row of bits spells, most significant first
abbrev pub spelled : List ℕ → ℕ
spelled [] = 0
spelled (b ∷ bs) = b * 2 ^ length bs + spelled bs
