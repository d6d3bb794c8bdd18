-- A page's bytes as the bits of a message. Assumes nothing.
use Rattle.std.specs.Prelude.{◌≡◌, ℕ, zero, suc, ◌+◌, ◌-◌, ◌*◌, ◌/◌, ◌%◌, ◌<◌, ◌≤◌, List, [], ◌∷◌, ◌++◌, length, drop, replicate, slice_index}
use Rattle.std.specs.List.{AllByRecursion}

-- the bits of a byte, most significant first
abbrev pub bits_of_byte : ℕ → List ℕ
bits_of_byte b =
    b / 128 % 2 ∷ b / 64 % 2 ∷ b / 32 % 2 ∷ b / 16 % 2 ∷ b / 8 % 2 ∷ b / 4 % 2 ∷ b / 2 % 2 ∷ b % 2 ∷ []

abbrev pub bits_of : List ℕ → List ℕ
bits_of [] = []
bits_of (b ∷ bytes) = bits_of_byte b ++ bits_of bytes

-- the message of k bits that carries a payload; the spare bits behind it are 0
abbrev pub carrying : ℕ → List ℕ → List ℕ
carrying k payload = bits_of payload ++ replicate (k - 8 * length payload) 0

-- the first bits of a message as so many bytes
abbrev pub byte_at : List ℕ → ℕ
byte_at bits =
    128 * slice_index bits 0 + 64 * slice_index bits 1 + 32 * slice_index bits 2 + 16 * slice_index bits 3 + 8 * slice_index bits 4 + 4 * slice_index bits 5 + 2 * slice_index bits 6 + slice_index bits 7

abbrev pub bytes_of : ℕ → List ℕ → List ℕ
bytes_of zero bits = []
bytes_of (suc n) bits = byte_at bits ∷ bytes_of n (drop 8 bits)

-- how many bytes a page holds whose message has k bits
abbrev pub page_bytes : ℕ → ℕ
page_bytes k = k / 8

-- no spare bit of a message is set
abbrev pub SpareClear : ℕ → List ℕ → Type 0
SpareClear k u = AllByRecursion (λ b. b ≡ 0) (drop (8 * page_bytes k) u)

-- the first spare bit of a message that is set
pub record FirstSpare (k : ℕ) (u : List ℕ) (bit : ℕ) : Type 0 where
  pub spare : 8 * page_bytes k ≤ bit
  pub set : slice_index u bit ≡ 1
  pub first : (i : ℕ) → 8 * page_bytes k ≤ i → i < bit → slice_index u i ≡ 0
