-- Which codes fit the stages of a chain. Assumes nothing.
use Rattle.std.specs.Prelude.{◌≡◌, ℕ, suc, ◌*◌, Bool, cond, ◌&&◌, List, [], ◌∷◌, Some, None, Option, ◌==◌, nat_le}
use Rattle.words.specs.Buffers.{either}
use Rattle.chains.specs.Model.{ChainModel}
use Rattle.codes.specs.Model.{CodeModel, Lawful}
use Rattle.pile_laws.specs.Build.{columns}

-- the code of stage i: the chain has that stage, and the widths and the number of columns agree
abbrev pub fits_stage : ChainModel → ℕ → ℕ → CodeModel → Bool
fits_stage h n i c = nat_le i h.stages && (c.width == h.width i && c.len == n)

-- the first stage from stage i on that is missing, extra, of another width or of another length
abbrev pub unfit_from : ChainModel → ℕ → ℕ → List CodeModel → Option ℕ
unfit_from h n i [] = cond (nat_le i h.stages) (Some i) None
unfit_from h n i (c ∷ cs) = cond (fits_stage h n i c) (unfit_from h n (suc i) cs) (Some i)

-- the place that a refusal names: the first such stage, and 0 where only the cells are too many
abbrev pub unfit : ChainModel → List CodeModel → Option ℕ
unfit h cs = either (unfit_from h (columns cs) 1 cs) (cond (nat_le (h.breadth * columns cs) 4096) None (Some 0))

abbrev pub Fits : ChainModel → List CodeModel → Type 0
Fits h cs = unfit h cs ≡ None

abbrev pub EachLawful : List CodeModel → Type 0
EachLawful [] = Unit {0}
EachLawful (c ∷ cs) = Lawful c × EachLawful cs

-- codes of one length
abbrev pub EachLong : ℕ → List CodeModel → Type 0
EachLong n [] = Unit {0}
EachLong n (c ∷ cs) = (c.len ≡ n) × EachLong n cs
