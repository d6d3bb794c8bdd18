-- Worked examples. Assumes nothing.
use Rattle.std.specs.Prelude.{◌≡◌}
use Rattle.field_laws.specs.Polynomials.{polynomial}
use Rattle.field_laws.specs.Extensions.{Extends, extension}

pub record Examples : Type 0 where
  -- width 3: 2·5 = 1
  pub three : (polynomial 3).product 2 5 ≡ 1
  -- width 8: 2·0x8E = 1
  pub eight : (polynomial 8).product 2 0x8E ≡ 1
  -- over width 4 with c = 8: 16·16 = 24, that is y·y = y + 8
  pub extended : (extension (polynomial 4) 8).product 16 16 ≡ 24
  -- over width 4, c = 1 is not lawful
  pub refused : Extends (polynomial 4) 1 → ⊥
