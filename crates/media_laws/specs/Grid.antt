-- The grid: one byte a cell, page after page. Assumes nothing.
use Rattle.std.specs.Prelude.{◌≡◌, ℕ, ◌*◌, ◌≤◌, cond, List, [], ◌∷◌, ◌++◌, map, length, take, drop, nat_lt}
use Rattle.media_laws.specs.Model.{MediumModel}

-- a byte of 2 and above is a blank cell
abbrev pub state_of : ℕ → ℕ
state_of b = cond (nat_lt b 2) b 2

-- a byte after a put, which leaves the byte of a blank cell
abbrev pub put_byte : ℕ → ℕ → ℕ
put_byte b v = cond (nat_lt b 2) v b

abbrev pub put_bytes : List ℕ → List ℕ → List ℕ
put_bytes [] cells = []
put_bytes (b ∷ bytes) [] = b ∷ bytes
put_bytes (b ∷ bytes) (v ∷ cells) = put_byte b v ∷ put_bytes bytes cells

abbrev pub page_bytes : List ℕ → ℕ → ℕ → List ℕ
page_bytes bytes breadth p = take breadth (drop (p * breadth) bytes)

abbrev pub grid : List ℕ → ℕ → ℕ → MediumModel
grid bytes pages breadth = record { pages = pages; breadth = breadth; page = λ p. map state_of (page_bytes bytes breadth p) }

abbrev pub GridFits : List ℕ → ℕ → ℕ → Type 0
GridFits bytes pages breadth =
    ((1 ≤ pages) × (pages ≤ 65535)) × ((1 ≤ breadth) × (breadth ≤ 4096)) × (length bytes ≡ pages * breadth)

-- all bytes after a put to a page: those before and behind it stay
abbrev pub bytes_put : List ℕ → ℕ → ℕ → List ℕ → List ℕ
bytes_put bytes breadth p cells =
    take (p * breadth) bytes ++ (put_bytes (page_bytes bytes breadth p) cells ++ drop breadth (drop (p * breadth) bytes))
