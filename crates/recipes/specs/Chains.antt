-- The chains that a recipe can name: their byte, cells, stages, label widths and distances. Assumes nothing.
use Rattle.std.specs.Prelude.{ℕ, zero, suc, ◌+◌, ◌-◌, ◌^◌, ◌≤◌, cond, ◌&&◌, Some, None, Option, ◌==◌, nat_le}
use Rattle.recipes.specs.declared.kinds.ChainKind.{ChainKind}
use Rattle.recipes.specs.declared.kinds.ChainKind.TheVariants.{ReedMuller, Even}

-- the chain that a byte names: Reed-Muller with r from 1 to 4, or even with n from 2 to 9
abbrev pub chain_named : ℕ → Option ChainKind
chain_named byte =
    cond (nat_le 0x11 byte && nat_le byte 0x14)
    (Some (ReedMuller (byte - 0x10)))
    (cond (nat_le 0x22 byte && nat_le byte 0x29) (Some (Even (byte - 0x20))) None)

abbrev pub chain_byte : ChainKind → ℕ
chain_byte (ReedMuller r) = 0x10 + r
chain_byte (Even n) = 0x20 + n

abbrev pub Known : ChainKind → Type 0
Known (ReedMuller r) = (1 ≤ r) × (r ≤ 4)
Known (Even n) = (2 ≤ n) × (n ≤ 9)

abbrev pub cells_of : ChainKind → ℕ
cells_of (ReedMuller r) = 2 ^ r
cells_of (Even n) = n

abbrev pub stages_of : ChainKind → ℕ
stages_of (ReedMuller r) = r + 1
stages_of (Even n) = 2

-- how many ways there are to choose k of n things: how many numbers of n bits have k ones
abbrev pub choose : ℕ → ℕ → ℕ
choose n zero = 1
choose zero (suc k) = 0
choose (suc n) (suc k) = choose n k + choose n (suc k)

-- the label width of the stage with index i, where the first stage has index 0
abbrev pub width_at : ChainKind → ℕ → ℕ
width_at (ReedMuller r) i = choose r i
width_at (Even n) i = cond (i == 0) 1 (n - 1)

-- its inner distance
abbrev pub distance_at : ChainKind → ℕ → ℕ
distance_at (ReedMuller r) i = 2 ^ i
distance_at (Even n) i = i + 1
