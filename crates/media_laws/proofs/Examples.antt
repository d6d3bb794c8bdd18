-- The worked example of packed cells. Assumes nothing.
use Rattle.std.proofs.Common.{◌≡◌, [], ◌∷◌, refl}
use Rattle.media_laws.specs.Packed.{packed}

-- ten cells in four bytes
pub ten_cells : (packed (0xa0 ∷ 0x40 ∷ 0x08 ∷ 0x00 ∷ []) 1 10).page 0 ≡ 1 ∷ 0 ∷ 1 ∷ 0 ∷ 2 ∷ 0 ∷ 0 ∷ 0 ∷ 0 ∷ 1 ∷ []
ten_cells = refl
