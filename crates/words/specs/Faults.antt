-- The number of each kind of refusal, and how a fault is made and handed up. Assumes nothing.
use Rattle.std.specs.Prelude.{ℕ, Some, None}
use Rattle.words.specs.declared.fault.Fault.{Fault}
use Rattle.words.specs.declared.fault.Kind.{Kind}
use Rattle.words.specs.declared.fault.Kind.TheVariants.{RecipeEnds, UnknownChain, BytesLeftOver, Columns, StageKind, StageSize, WrongLength, TooLarge, NoCodeword, UnlawfulField, OutsideKind, UnfitStages, StageOutOfRange, PageOutOfRange, CellOutOfRange, UnfitMemory, SpareBitSet, UnfitMedium}
use Rattle.words.specs.declared.fault.Layer.{Layer}

abbrev pub number_of : Kind → ℕ
number_of RecipeEnds = 1
number_of UnknownChain = 2
number_of BytesLeftOver = 3
number_of Columns = 4
number_of StageKind = 5
number_of StageSize = 6
number_of WrongLength = 10
number_of TooLarge = 11
number_of NoCodeword = 12
number_of UnlawfulField = 13
number_of OutsideKind = 14
number_of UnfitStages = 15
number_of StageOutOfRange = 16
number_of PageOutOfRange = 17
number_of CellOutOfRange = 18
number_of UnfitMemory = 19
number_of SpareBitSet = 20
number_of UnfitMedium = 21

-- a fault that no memory has passed up
abbrev pub fault : Kind → Layer → ℕ → Fault
fault k l p = record { kind = k; layer = l; place = p; page = None }

-- the same fault once a memory has added the page
abbrev pub on_page : Fault → ℕ → Fault
on_page f p = record { kind = f.kind; layer = f.layer; place = f.place; page = Some p }
