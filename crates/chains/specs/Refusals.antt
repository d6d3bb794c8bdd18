-- What a chain's calls ask of what they are handed, and which refusal they give. Assumes nothing.
use Rattle.std.specs.Prelude.{◌≡◌, ℕ, suc, ◌-◌, ◌^◌, ◌≤◌, cond, ◌&&◌, List, [], ◌∷◌, length, Some, None, Option, nat_le, nat_lt}
use Rattle.words.specs.declared.fault.Fault.{Fault}
use Rattle.words.specs.declared.fault.Kind.TheVariants.{TooLarge, OutsideKind, StageOutOfRange}
use Rattle.words.specs.declared.fault.Layer.TheVariants.{Chain}
use Rattle.words.specs.Faults.{fault}
use Rattle.words.specs.Buffers.{Given, either, refusal}
use Rattle.chains.specs.Model.{LabelsFrom, Cells}

-- the refusal of numbers that are outside a chain's kind
abbrev pub outside : Fault
outside = fault OutsideKind Chain 0

abbrev pub stage_refusal : ℕ → ℕ → Option Fault
stage_refusal stages i = cond (nat_le 1 i && nat_le i stages) None (Some (fault StageOutOfRange Chain i))

-- the least index, counted from i, whose label is not below the bound of its own stage: index 0 is stage 1
abbrev pub large_label : (ℕ → ℕ) → ℕ → List ℕ → Option Fault
large_label width i [] = None
large_label width i (x ∷ xs) = cond (nat_lt x (2 ^ width (suc i))) (large_label width (suc i) xs) (Some (fault TooLarge Chain i))

-- a buffer of bytes that is checked for its length only, and one of cells or marks
abbrev pub sized : ℕ → List ℕ → Given
sized n xs = record { content = xs; wanted = n; below = 256 }

abbrev pub binary : ℕ → List ℕ → Given
binary n xs = record { content = xs; wanted = n; below = 2 }

-- a whole row of labels, and room for its word of n cells
abbrev pub word_refusal : ℕ → ℕ → (ℕ → ℕ) → List ℕ → List ℕ → Option Fault
word_refusal n stages width labels cells = either (refusal Chain (sized stages labels ∷ sized n cells ∷ [])) (large_label width 0 labels)

-- stage i, the labels before it, and a reading: n cells and their marks
abbrev pub estimate_refusal : ℕ → ℕ → (ℕ → ℕ) → ℕ → List ℕ → List ℕ → List ℕ → Option Fault
estimate_refusal n stages width i labels cells marks =
    either (stage_refusal stages i)
    (either (refusal Chain (sized (i - 1) labels ∷ sized n cells ∷ sized n marks ∷ []))
    (either (large_label width 0 labels) (refusal Chain (binary n cells ∷ binary n marks ∷ []))))

-- what neither refuses
pub record RowFits (n stages : ℕ) (width : ℕ → ℕ) (labels cells : List ℕ) : Type 0 where
  pub many : length labels ≡ stages
  pub each : LabelsFrom width 1 labels
  pub room : length cells ≡ n

pub record ReadingFits (n stages : ℕ) (width : ℕ → ℕ) (i : ℕ) (labels cells marks : List ℕ) : Type 0 where
  pub low : 1 ≤ i
  pub high : i ≤ stages
  pub many : length labels ≡ i - 1
  pub each : LabelsFrom width 1 labels
  pub cells_fit : Cells n cells
  pub marks_fit : Cells n marks
