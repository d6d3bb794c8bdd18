-- Packed cells: page after page, a row of value bits and then a row of mark bits, each in whole bytes. Assumes nothing.
use Rattle.std.specs.Prelude.{◌≡◌, ℕ, ◌+◌, ◌-◌, ◌*◌, ◌/◌, ◌%◌, ◌^◌, ◌<◌, ◌≤◌, cond, List, map, length, ◌==◌, ◌≢◌, slice_index}
use Rattle.std.specs.List.{range_with_len}
use Rattle.media_laws.specs.Model.{MediumModel}

-- how many bytes hold a bit for each cell of a page
abbrev pub row_bytes : ℕ → ℕ
row_bytes breadth = (breadth + 7) / 8

-- where a page's value bits begin, and where its mark bits do; the bits of cell i stand i places on
abbrev pub first_value : ℕ → ℕ → ℕ
first_value breadth p = 8 * (p * (2 * row_bytes breadth))

abbrev pub first_mark : ℕ → ℕ → ℕ
first_mark breadth p = 8 * (p * (2 * row_bytes breadth) + row_bytes breadth)

-- bit k of some bytes, the most significant bit of a byte first
abbrev pub bit_of : List ℕ → ℕ → ℕ
bit_of bytes k = slice_index bytes (k / 8) / 2 ^ (7 - k % 8) % 2

-- a cell with these bits; under a mark the value is ignored
abbrev pub cell_of : ℕ → ℕ → ℕ
cell_of value mark = cond (mark == 1) 2 value

-- cell i of a page whose value and mark bits begin so
abbrev pub cell_at : List ℕ → ℕ → ℕ → ℕ → ℕ
cell_at bytes values marks i = cell_of (bit_of bytes (values + i)) (bit_of bytes (marks + i))

abbrev pub packed : List ℕ → ℕ → ℕ → MediumModel
packed bytes pages breadth =
    record {
      pages = pages;
      breadth = breadth;
      page = λ p. map (cell_at bytes (first_value breadth p) (first_mark breadth p)) (range_with_len 0 breadth);
    }

abbrev pub PackedFits : List ℕ → ℕ → ℕ → Type 0
PackedFits bytes pages breadth =
    ((1 ≤ pages) × (pages ≤ 65535)) × ((1 ≤ breadth) × (breadth ≤ 4096)) × (length bytes ≡ pages * (2 * row_bytes breadth))

-- one bit takes a value, and every other bit stays
pub record BitSet (bytes bytes' : List ℕ) (k bit : ℕ) : Type 0 where
  pub long : length bytes' ≡ length bytes
  pub here : bit_of bytes' k ≡ bit
  pub elsewhere : (j : ℕ) → (j ≢ k) → bit_of bytes' j ≡ bit_of bytes j

-- a cell's value bit after a put, which leaves that of a blank cell
abbrev pub put_bit : List ℕ → ℕ → ℕ → ℕ → ℕ
put_bit bytes value mark cell = cond (bit_of bytes mark == 1) (bit_of bytes value) cell

-- n cells are put: their value bits change, and every other bit stays
pub record BitsPut (bytes bytes' : List ℕ) (values marks : ℕ) (cells : List ℕ) (n : ℕ) : Type 0 where
  pub long : length bytes' ≡ length bytes
  pub here : (i : ℕ) → i < n → bit_of bytes' (values + i) ≡ put_bit bytes (values + i) (marks + i) (slice_index cells i)
  pub elsewhere : (k : ℕ) → (values ≤ k → k < values + n → ⊥) → bit_of bytes' k ≡ bit_of bytes k

-- one cell is worn: to blank it is marked and its value bit stays, else it takes the value and loses its mark; every other bit stays
pub record BitsWorn (bytes bytes' : List ℕ) (value mark state : ℕ) : Type 0 where
  pub long : length bytes' ≡ length bytes
  pub value_bit : bit_of bytes' value ≡ cond (state == 2) (bit_of bytes value) state
  pub mark_bit : bit_of bytes' mark ≡ cond (state == 2) 1 0
  pub elsewhere : (k : ℕ) → (k ≢ value) → (k ≢ mark) → bit_of bytes' k ≡ bit_of bytes k
