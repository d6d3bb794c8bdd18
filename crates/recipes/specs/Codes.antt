-- The kinds of code that a recipe can name for a stage. Assumes nothing.
use Rattle.std.specs.Prelude.{ℕ, ◌+◌, ◌-◌, ◌%◌, ◌^◌, Bool, true, cond, ◌&&◌, Some, None, Option, ◌==◌, nat_le}
use Rattle.recipes.specs.declared.kinds.CodeKind.{CodeKind}
use Rattle.recipes.specs.declared.kinds.CodeKind.TheVariants.{Open, ReedSolomon, Repetition, ExtendedReedSolomon}

abbrev pub code_byte : CodeKind → ℕ
code_byte Open = 0
code_byte ReedSolomon = 1
code_byte Repetition = 2
code_byte ExtendedReedSolomon = 3

-- the extension stands over a field of half the width
abbrev pub allowed : CodeKind → ℕ → Bool
allowed Open width = true
allowed ReedSolomon width = true
allowed Repetition width = true
allowed ExtendedReedSolomon width = width % 2 == 0

-- the kind that a byte names at a width
abbrev pub code_named : ℕ → ℕ → Option CodeKind
code_named byte width =
    cond (byte == 0) (Some Open)
    (cond (byte == 1) (Some ReedSolomon)
    (cond (byte == 2) (Some Repetition)
    (cond (byte == 3 && width % 2 == 0) (Some ExtendedReedSolomon) None)))

-- whether the columns N and the message length K fit the kind
abbrev pub fits_kind : CodeKind → ℕ → ℕ → ℕ → Bool
fits_kind Open width n k = k == n
fits_kind ReedSolomon width n k = nat_le 1 k && (nat_le k n && nat_le n (2 ^ width))
fits_kind Repetition width n k = k == 1
fits_kind ExtendedReedSolomon width n k = nat_le 1 k && (nat_le k n && nat_le n (2 ^ width))

-- the code's own distance
abbrev pub outer_distance : CodeKind → ℕ → ℕ → ℕ
outer_distance Open n k = 1
outer_distance ReedSolomon n k = n - k + 1
outer_distance Repetition n k = n
outer_distance ExtendedReedSolomon n k = n - k + 1
