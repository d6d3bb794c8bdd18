-- The simple kinds of code. Assumes nothing.
use Rattle.std.specs.Prelude.{◌≡◌, ℕ, ◌+◌, ◌<◌, ◌≤◌, cond, ◌&&◌, List, [], ◌∷◌, length, replicate, ◌==◌, slice_index}
use Rattle.codes.specs.Model.{CodeModel}

-- each word is its own message
abbrev pub open_code : ℕ → ℕ → CodeModel
open_code m n = record { width = m; len = n; message_len = n; distance = 1; codeword = λ u. u; Blames = λ _ _ place. place ≡ 0 }

-- one symbol, n times over
abbrev pub repetition_code : ℕ → ℕ → CodeModel
repetition_code m n =
    record { width = m; len = n; message_len = 1; distance = n; codeword = λ u. replicate n (slice_index u 0); Blames = λ _ _ place. place ≡ 0 }

-- how many readable places hold a symbol
abbrev pub readable_count : ℕ → List ℕ → List ℕ → ℕ
readable_count x [] marks = 0
readable_count x (w ∷ word) [] = 0
readable_count x (w ∷ word) (m ∷ marks) = cond (m == 0 && w == x) 1 0 + readable_count x word marks

-- counts holds, for each byte, how many readable places hold it
abbrev pub Counted : List ℕ → List ℕ → List ℕ → Type 0
Counted word marks counts = (length counts ≡ 256) × ((x : ℕ) → x < 256 → slice_index counts x ≡ readable_count x word marks)

-- the least index whose count none exceeds
abbrev pub MostFrequent : List ℕ → ℕ → Type 0
MostFrequent counts r =
    (r < length counts)
    × ((x : ℕ) → x < length counts → slice_index counts x ≤ slice_index counts r)
    × ((x : ℕ) → x < r → slice_index counts x < slice_index counts r)
