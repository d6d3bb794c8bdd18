-- The Reed-Muller chain of 2^r cells: bits that are numbered as the cells are, by how many ones their number has. Assumes nothing.
use Rattle.std.specs.Prelude.{ℕ, zero, suc, ◌+◌, ◌-◌, ◌%◌, ◌^◌, ◌≤◌, Bool, cond, List, [], ◌∷◌, ◌++◌, map, length, filter, ◌==◌, bit_and, nat_eq}
use Rattle.std.specs.List.{flat_map}
use Rattle.chains.specs.Bits.{bits_of, total}
use Rattle.chains.specs.Model.{ChainModel, at_stage}

abbrev pub MullerRange : ℕ → Type 0
MullerRange r = (1 ≤ r) × (r ≤ 4)

-- k numbers from i on
abbrev pub counted : ℕ → ℕ → List ℕ
counted i zero = []
counted i (suc k) = i ∷ counted (suc i) k

-- how many of the r bits of a number are ones
abbrev pub ones_in : ℕ → ℕ → ℕ
ones_in r s = total (bits_of r s)

-- the numbers of stage i's bits: those below 2^r that have r + 1 − i ones, the smallest first
abbrev pub numbers : ℕ → ℕ → List ℕ
numbers r i = filter (λ s. nat_eq (ones_in r s) (r + 1 - i)) (counted 0 (2 ^ r))

abbrev pub muller_widths : ℕ → List ℕ
muller_widths r = map (λ i. length (numbers r i)) (counted 1 (r + 1))

-- the numbers of a row's bits, and the bits, stage by stage: a label's most significant bit first
abbrev pub order : ℕ → List ℕ
order r = flat_map (numbers r) (counted 1 (r + 1))

abbrev pub row_bits : List ℕ → List ℕ → List ℕ
row_bits [] labels = []
row_bits (w ∷ widths) [] = []
row_bits (w ∷ widths) (x ∷ labels) = bits_of w x ++ row_bits widths labels

-- s has no one outside p's ones
abbrev pub inside : ℕ → ℕ → Bool
inside s p = bit_and s p == s

-- how many of the bits whose number has no one outside p's ones are 1
abbrev pub held : ℕ → List ℕ → List ℕ → ℕ
held p [] bits = 0
held p (s ∷ numbers) [] = 0
held p (s ∷ numbers) (b ∷ bits) = cond (inside s p) b 0 + held p numbers bits

-- cell p is the exclusive or of those bits
abbrev pub muller_word : ℕ → List ℕ → List ℕ
muller_word r u = map (λ p. held p (order r) (row_bits (muller_widths r) u) % 2) (counted 0 (2 ^ r))

abbrev pub muller_chain : ℕ → ChainModel
muller_chain r = record { breadth = 2 ^ r; stages = r + 1; width = at_stage (muller_widths r); distance = λ i. 2 ^ (i - 1); word = muller_word r }
