-- The words in which a fault is shown. Assumes nothing.
use Rattle.std.specs.Prelude.{ℕ, List, codes}
use Rattle.words.specs.declared.fault.Kind.{Kind}
use Rattle.words.specs.declared.fault.Kind.TheVariants.{RecipeEnds, UnknownChain, BytesLeftOver, Columns, StageKind, StageSize, WrongLength, TooLarge, NoCodeword, UnlawfulField, OutsideKind, UnfitStages, StageOutOfRange, PageOutOfRange, CellOutOfRange, UnfitMemory, SpareBitSet, UnfitMedium}
use Rattle.words.specs.declared.fault.Layer.{Layer}
use Rattle.words.specs.declared.fault.Layer.TheVariants.{Recipe, Field, Code, Chain, Pile, Medium, Memory}

abbrev pub kind_text : Kind → List ℕ
kind_text RecipeEnds = codes "the recipe ends inside or before a field"
kind_text UnknownChain = codes "unknown chain byte"
kind_text BytesLeftOver = codes "bytes left over after the last stage"
kind_text Columns = codes "no columns, or more than 4096 cells"
kind_text StageKind = codes "unknown kind of code, or an extension at odd width"
kind_text StageSize = codes "message length or columns do not fit the kind of code"
kind_text WrongLength = codes "a buffer of the wrong length"
kind_text TooLarge = codes "a value too large"
kind_text NoCodeword = codes "no codeword near enough"
kind_text UnlawfulField = codes "no lawful field"
kind_text OutsideKind = codes "numbers outside the kind"
kind_text UnfitStages = codes "stages that do not fit the chain"
kind_text StageOutOfRange = codes "no such stage"
kind_text PageOutOfRange = codes "no such page"
kind_text CellOutOfRange = codes "no such cell, or no such state"
kind_text UnfitMemory = codes "a code that does not fit the medium"
kind_text SpareBitSet = codes "a spare bit is set"
kind_text UnfitMedium = codes "pages, cells or bytes outside the medium's range"

abbrev pub layer_text : Layer → List ℕ
layer_text Recipe = codes "recipe"
layer_text Field = codes "field"
layer_text Code = codes "code"
layer_text Chain = codes "chain"
layer_text Pile = codes "pile"
layer_text Medium = codes "medium"
layer_text Memory = codes "memory"
