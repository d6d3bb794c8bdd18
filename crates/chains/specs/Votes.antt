-- Reed's votes, by which the bits of a row are read off a reading one after the other. Assumes nothing.
use Rattle.std.specs.Prelude.{ℕ, ◌+◌, ◌-◌, ◌*◌, ◌%◌, ◌^◌, min, cond, ◌&&◌, List, [], ◌∷◌, map, length, drop, filter, ◌==◌, bit_and, nat_eq, nat_lt}
use Rattle.chains.specs.Bits.{bits_of, total}
use Rattle.chains.specs.ReedMuller.{counted, inside, muller_widths, order, row_bits}

-- a bit: the cells that it turns, and the sets of cells whose sums it can be read off; a set has a 1 for each of its cells
pub record Column : Type 0 where
  pub reaches : List ℕ
  pub checks : List (List ℕ)

-- how many cells of a set are 1
abbrev pub meet : List ℕ → List ℕ → ℕ
meet [] cells = 0
meet (x ∷ set) [] = 0
meet (x ∷ set) (y ∷ cells) = min x y + meet set cells

-- a set votes for b if it has no blank cell and the sum b
abbrev pub voice : ℕ → List ℕ → List ℕ → List ℕ → ℕ
voice b set cells marks = cond (meet set marks == 0 && (meet set cells % 2) == b) 1 0

abbrev pub votes : ℕ → List (List ℕ) → List ℕ → List ℕ → ℕ
votes b [] cells marks = 0
votes b (set ∷ sets) cells marks = voice b set cells marks + votes b sets cells marks

-- the bit that has more votes
abbrev pub elected : List (List ℕ) → List ℕ → List ℕ → ℕ
elected sets cells marks = cond (nat_lt (votes 0 sets cells marks) (votes 1 sets cells marks)) 1 0

-- the exclusive or of two rows of bits, place by place
abbrev pub added : List ℕ → List ℕ → List ℕ
added [] ys = []
added (x ∷ xs) [] = []
added (x ∷ xs) (y ∷ ys) = (x + y) % 2 ∷ added xs ys

abbrev pub turned : ℕ → Column → List ℕ → List ℕ
turned b column cells = cond (b == 0) cells (added cells column.reaches)

-- the cells after each bit has turned its own
abbrev pub laid : List Column → List ℕ → List ℕ → List ℕ
laid [] bits cells = cells
laid (column ∷ columns) [] cells = cells
laid (column ∷ columns) (b ∷ bits) cells = laid columns bits (turned b column cells)

-- the bits as they are voted for, each taken off the reading before the next
abbrev pub settled : List Column → List ℕ → List ℕ → List ℕ
settled [] cells marks = []
settled (column ∷ columns) cells marks =
    let b = elected column.checks cells marks in b ∷ settled columns (turned b column cells) marks

-- the harm of a reading, by its marks and what is left of it once a word is taken off
abbrev pub left_harm : List ℕ → List ℕ → ℕ
left_harm [] marks = 0
left_harm (x ∷ cells) [] = 0
left_harm (x ∷ cells) (mark ∷ marks) = cond (mark == 0) (2 * x) 1 + left_harm cells marks

-- the numbers that have no one outside s's ones, as a set: 2^p for each such p
unfoldable pub subsets : ℕ → ℕ
subsets s = total (map (λ p. cond (inside p s) (2 ^ p) 0) (counted 0 16))

-- of some numbers, for each that shares no one with s, the cells that have the same ones outside s
abbrev pub check_sets : ℕ → ℕ → List ℕ → List (List ℕ)
check_sets n s numbers = map (λ a. bits_of n (subsets s * 2 ^ a)) (filter (λ a. nat_eq (bit_and a s) 0) numbers)

-- a bit turns the cells that have all its ones
abbrev pub column : ℕ → ℕ → Column
column r s = let n = 2 ^ r in record { reaches = bits_of n (subsets (n - 1 - s)); checks = check_sets n s (counted 0 n) }

abbrev pub columns : ℕ → List Column
columns r = map (column r) (order r)

-- the bits that the votes find once those of the decided labels are taken off, and the harm of the row that all make
abbrev pub decided_bits : ℕ → List ℕ → List ℕ
decided_bits r labels = row_bits (muller_widths r) labels

abbrev pub found_bits : ℕ → List ℕ → List ℕ → List ℕ → List ℕ
found_bits r labels cells marks =
    let decided = decided_bits r labels in settled (drop (length decided) (columns r)) (laid (columns r) decided cells) marks

abbrev pub found_harm : ℕ → List ℕ → List ℕ → List ℕ → ℕ
found_harm r labels cells marks =
    let decided = decided_bits r labels in
    left_harm (laid (drop (length decided) (columns r)) (found_bits r labels cells marks) (laid (columns r) decided cells)) marks
