-- What a chain is: stages of labels, and the word of cells that a row of labels stands for. Assumes nothing.
use Rattle.std.specs.Prelude.{◌≡◌, ℕ, suc, ◌-◌, ◌^◌, ◌<◌, ◌≤◌, List, [], ◌∷◌, length, take, ◌≢◌, slice_index}
use Rattle.std.specs.List.{AllByRecursion}
use Rattle.words.specs.Distance.{differences}

-- n cells, and stages numbered from 1, each with a label width and a distance
pub record ChainModel : Type 0 where
  pub breadth : ℕ
  pub stages : ℕ
  pub width : ℕ → ℕ
  pub distance : ℕ → ℕ
  pub word : List ℕ → List ℕ

abbrev pub Stage : ChainModel → ℕ → Type 0
Stage h i = (1 ≤ i) × (i ≤ h.stages)

-- labels for the stages from stage i on, each below its own stage's bound
abbrev pub LabelsFrom : (ℕ → ℕ) → ℕ → List ℕ → Type 0
LabelsFrom width i [] = Unit {0}
LabelsFrom width i (x ∷ xs) = (x < 2 ^ width i) × LabelsFrom width (suc i) xs

-- a row has one label for each stage
abbrev pub Row : ChainModel → List ℕ → Type 0
Row h u = (length u ≡ h.stages) × LabelsFrom h.width 1 u

-- what stands for stage i in a list that has an entry for each stage, as its label in a row
abbrev pub at_stage : List ℕ → ℕ → ℕ
at_stage xs i = slice_index xs (i - 1)

-- the labels of the stages before stage i
abbrev pub before : ℕ → List ℕ → List ℕ
before i u = take (i - 1) u

abbrev pub FirstDiffer : ℕ → List ℕ → List ℕ → Type 0
FirstDiffer i u v = (before i u ≡ before i v) × (at_stage u i ≢ at_stage v i)

abbrev pub Cells : ℕ → List ℕ → Type 0
Cells n w = (length w ≡ n) × AllByRecursion (λ x. x < 2) w

pub record LawfulChain (h : ChainModel) : Type 0 where
  pub some_cells : 1 ≤ h.breadth
  pub few_cells : h.breadth ≤ 16
  pub some_stages : 1 ≤ h.stages
  pub few_stages : h.stages ≤ 5
  pub some_width : (i : ℕ) → Stage h i → 1 ≤ h.width i
  pub few_width : (i : ℕ) → Stage h i → h.width i ≤ 8
  pub some_distance : (i : ℕ) → Stage h i → 1 ≤ h.distance i
  pub never_falls : (i j : ℕ) → Stage h i → Stage h j → i ≤ j → h.distance i ≤ h.distance j
  pub words : (u : List ℕ) → Row h u → Cells h.breadth (h.word u)
  -- rows that first differ at stage i have words that differ in at least that stage's distance
  pub apart : (i : ℕ) (u v : List ℕ) → Stage h i → Row h u → Row h v → FirstDiffer i u v → h.distance i ≤ differences (h.word u) (h.word v)
