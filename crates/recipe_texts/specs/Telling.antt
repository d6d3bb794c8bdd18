-- What the text of a recipe comes to. Assumes nothing.
use Rattle.std.specs.Prelude.{◌≡◌, ℕ, List, Some, None, Ok, Err, Result}
use Rattle.recipes.specs.declared.recipe.Recipe.{Recipe}
use Rattle.recipes.specs.Meaning.{Describes}
use Rattle.recipes.specs.Rules.{recipe_refusal}
use Rattle.recipe_texts.specs.declared.text.TextError.{TextError}
use Rattle.recipe_texts.specs.declared.text.TextError.TheVariants.{Refused, NotHexadecimal}
use Rattle.recipe_texts.specs.Hex.{hex_bytes}

-- a recipe, a refusal of the bytes, or text that writes no bytes
abbrev pub Tells : List ℕ → Result Recipe TextError → Type 0
Tells text (Ok recipe) = (b : List ℕ) × (hex_bytes text None ≡ Some b) × Describes b recipe.table
Tells text (Err (Refused f)) = (b : List ℕ) × (hex_bytes text None ≡ Some b) × (recipe_refusal b ≡ Some f)
Tells text (Err NotHexadecimal) = hex_bytes text None ≡ None
