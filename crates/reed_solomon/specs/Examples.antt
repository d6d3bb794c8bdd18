-- The code of eight symbols for two over the polynomial field of width 3. Assumes nothing.
use Rattle.std.specs.Prelude.{◌≡◌, [], ◌∷◌, replicate, Ok}
use Rattle.field_laws.specs.Polynomials.{polynomial}
use Rattle.codes.specs.Promises.{Corrected}
use Rattle.reed_solomon_laws.specs.Words.{reed_solomon}

-- the message 0 1 has the codeword 0 1 2 3 4 5 6 7, to which 0 1 2 3 0 0 0 7 corrects with harm 6
abbrev pub ReedSolomonExample : Type 0
ReedSolomonExample =
    ((reed_solomon (polynomial 3) 8 2).codeword (0 ∷ 1 ∷ []) ≡ 0 ∷ 1 ∷ 2 ∷ 3 ∷ 4 ∷ 5 ∷ 6 ∷ 7 ∷ [])
    × Corrected (reed_solomon (polynomial 3) 8 2) (0 ∷ 1 ∷ 2 ∷ 3 ∷ 0 ∷ 0 ∷ 0 ∷ 7 ∷ []) (replicate 8 0) (0 ∷ 1 ∷ 2 ∷ 3 ∷ 4 ∷ 5 ∷ 6 ∷ 7 ∷ []) (Ok 6)
