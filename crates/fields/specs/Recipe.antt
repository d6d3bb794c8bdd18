-- The extensions that recipes use: over the polynomial field of half the width, with one fixed c for each width. Assumes nothing.
use Rattle.std.specs.Prelude.{◌≡◌, ℕ, ◌*◌, ◌⊎◌}
use Rattle.field_laws.specs.Fields.{FieldLaws}
use Rattle.field_laws.specs.Polynomials.{polynomial}
use Rattle.field_laws.specs.Extensions.{Extends, extension}

-- the width and the c of an extension
abbrev pub RecipeConstant : ℕ → ℕ → Type 0
RecipeConstant width c =
    ((width ≡ 2) × (c ≡ 1)) ⊎ (((width ≡ 4) × (c ≡ 2)) ⊎ (((width ≡ 6) × (c ≡ 1)) ⊎ ((width ≡ 8) × (c ≡ 8))))

abbrev pub RecipeWidth : ℕ → Type 0
RecipeWidth width = (width ≡ 2) ⊎ ((width ≡ 4) ⊎ ((width ≡ 6) ⊎ (width ≡ 8)))

-- an extension, by the width of the polynomial field below and by its c, that a recipe may name by its own width
pub record RecipeExtension (width half c : ℕ) : Type 0 where
  pub half_width : width ≡ 2 * half
  pub constant : RecipeConstant width c
  pub extends : Extends (polynomial half) c
  pub lawful : FieldLaws (extension (polynomial half) c)
