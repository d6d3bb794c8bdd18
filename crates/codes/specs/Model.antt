-- What a code means, and the law that it keeps. Assumes nothing.
use Rattle.std.specs.Prelude.{◌≡◌, ℕ, ◌^◌, ◌<◌, ◌≤◌, List, length, ◌≢◌}
use Rattle.std.specs.List.{AllByRecursion}
use Rattle.words.specs.Distance.{differences}
use Rattle.words.specs.Harm.{harm}

-- a row of n symbols of m bits each
abbrev pub Symbols : ℕ → ℕ → List ℕ → Type 0
Symbols m n xs = (length xs ≡ n) × AllByRecursion (λ x. x < 2 ^ m) xs

-- a block code: a map from messages of K symbols to codewords of N symbols
pub record CodeModel : Type 1 where
  pub width : ℕ
  pub len : ℕ
  pub message_len : ℕ
  pub distance : ℕ
  pub codeword : List ℕ → List ℕ
  -- the place that a refusal to correct a word beside its marks may name
  pub Blames : List ℕ → List ℕ → ℕ → Type 0

abbrev pub Message : CodeModel → List ℕ → Type 0
Message c u = Symbols c.width c.message_len u

-- a message whose codeword lies at harm below the code's distance
abbrev pub Near : CodeModel → List ℕ → List ℕ → List ℕ → Type 0
Near c word marks u = Message c u × (harm word marks (c.codeword u) < c.distance)

-- a word of the code's length, and a row of marks beside it
abbrev pub Beside : CodeModel → (word marks : List ℕ) → Type 0
Beside c word marks = Symbols c.width c.len word × Symbols 1 c.len marks

-- what an implementation shows: its ranges, that the codewords of different messages differ in at least D places, and that a word beside
-- its marks blames at most one place
pub record Lawful (c : CodeModel) : Type 0 where
  pub some_width : 1 ≤ c.width
  pub narrow : c.width ≤ 8
  pub short : c.len ≤ 4096
  pub some_message : 1 ≤ c.message_len
  pub message_within : c.message_len ≤ c.len
  pub some_distance : 1 ≤ c.distance
  pub symbols : (u : List ℕ) → Message c u → Symbols c.width c.len (c.codeword u)
  pub apart : (u v : List ℕ) → Message c u → Message c v → (u ≢ v) → c.distance ≤ differences (c.codeword u) (c.codeword v)
  pub one_place : (word marks : List ℕ) → Beside c word marks → (p q : ℕ) → c.Blames word marks p → c.Blames word marks q → p ≡ q

-- at most one codeword lies so near to a word of the code's length beside its marks
abbrev pub OnlyOneNear : CodeModel → List ℕ → List ℕ → Type 0
OnlyOneNear c word marks =
    length word ≡ c.len → length marks ≡ c.len → (u v : List ℕ) → Near c word marks u → Near c word marks v → u ≡ v
