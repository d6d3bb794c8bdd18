-- Decoding stage by stage: each column is estimated with the labels chosen before, and each stage chooses a codeword. Assumes nothing.
use Rattle.std.specs.Prelude.{◌≡◌, ℕ, suc, ◌-◌, ◌*◌, ◌<◌, List, [], length, take, drop, None, Option, slice_index_or}
use Rattle.chains.specs.declared.chain.Estimate.{Estimate}
use Rattle.chains.specs.Model.{ChainModel}
use Rattle.chains.specs.Promises.{Estimates}
use Rattle.codes.specs.Model.{CodeModel}
use Rattle.stage_laws.specs.Rule.{Chosen}
use Rattle.pile_laws.specs.Build.{columns, labels_at}

-- the code of a stage that there is not
abbrev pub no_code : CodeModel
no_code = record { width = 0; len = 0; message_len = 0; distance = 0; codeword = λ _. []; Blames = λ _ _ _. ⊥ }

abbrev pub code_at : List CodeModel → ℕ → CodeModel
code_at cs i = slice_index_or cs (i - 1) no_code

-- the n cells from cell n·j onward
abbrev pub column : ℕ → ℕ → List ℕ → List ℕ
column n j cells = take n (drop (n * j) cells)

module _ (h : ChainModel) (cs : List CodeModel) (word marks : List ℕ) where
  -- the estimates of the columns at the stage behind those whose codewords are chosen
  abbrev pub ColumnEstimates : List (List ℕ) → List (Option Estimate) → Type 0
  ColumnEstimates chosen es =
      (length es ≡ columns cs)
      × ((j : ℕ) → j < columns cs → Estimates h (suc (length chosen)) (labels_at chosen j) (column h.breadth j word) (column h.breadth j marks) (slice_index_or es j None))

  -- the choice of that stage, and that there is none
  abbrev pub NextChoice : List (List ℕ) → List ℕ → Type 0
  NextChoice chosen w =
      let i = suc (length chosen) in
      (es : List (Option Estimate)) × ColumnEstimates chosen es × ((u : List ℕ) × Chosen (code_at cs i) (h.distance i) es u × (w ≡ (code_at cs i).codeword u))

  abbrev pub NoChoice : List (List ℕ) → Type 0
  NoChoice chosen =
      let i = suc (length chosen) in
      (es : List (Option Estimate)) × ColumnEstimates chosen es × ((u : List ℕ) → Chosen (code_at cs i) (h.distance i) es u → ⊥)

  -- the codewords of the first stages, each the choice that follows from those before it
  abbrev pub Choices : List (List ℕ) → Type 0
  Choices words = (k : ℕ) → k < length words → NextChoice (take k words) (slice_index_or words k [])
