-- What a medium means: the state of each of its cells. Assumes nothing.
use Rattle.std.specs.Prelude.{◌≡◌, ℕ, ◌<◌, ◌≤◌, cond, List, [], ◌∷◌, length, ◌==◌, ◌≢◌}
use Rattle.std.specs.List.{AllByRecursion}

-- the states of a cell are 0, 1 and 2, which is blank
pub record MediumModel : Type 0 where
  pub pages : ℕ
  pub breadth : ℕ
  -- the states of a page's cells
  pub page : ℕ → List ℕ

pub record LawfulMedium (m : MediumModel) : Type 0 where
  pub some_pages : 1 ≤ m.pages
  pub few_pages : m.pages ≤ 65535
  pub some_cells : 1 ≤ m.breadth
  pub few_cells : m.breadth ≤ 4096
  pub states : (p : ℕ) → p < m.pages → (length (m.page p) ≡ m.breadth) × AllByRecursion (λ s. s < 3) (m.page p)

-- a cell as it is fetched: a blank one is given as 0 with the mark 1
abbrev pub value_of : ℕ → ℕ
value_of s = cond (s == 2) 0 s

abbrev pub mark_of : ℕ → ℕ
mark_of s = cond (s == 2) 1 0

-- a cell after a value is put to it: a blank one stays blank
abbrev pub put_to : ℕ → ℕ → ℕ
put_to s value = cond (s == 2) 2 value

abbrev pub stored : List ℕ → List ℕ → List ℕ
stored [] cells = []
stored (s ∷ states) [] = s ∷ states
stored (s ∷ states) (v ∷ cells) = put_to s v ∷ stored states cells

-- the same pages and cells, all in the same states
pub record Unchanged (m m' : MediumModel) : Type 0 where
  pub pages : m'.pages ≡ m.pages
  pub breadth : m'.breadth ≡ m.breadth
  pub states : (q : ℕ) → q < m.pages → m'.page q ≡ m.page q

-- one page in new states, and all others as they were
pub record Changed (m m' : MediumModel) (p : ℕ) (states : List ℕ) : Type 0 where
  pub pages : m'.pages ≡ m.pages
  pub breadth : m'.breadth ≡ m.breadth
  pub here : m'.page p ≡ states
  pub elsewhere : (q : ℕ) → q < m.pages → (q ≢ p) → m'.page q ≡ m.page q
