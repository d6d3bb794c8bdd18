-- Which refusal the parts of a pile give, and which parts are sound and fit each other. Assumes nothing.
use Rattle.std.specs.Prelude.{ℕ, ◌≤◌, List, [], ◌∷◌, map, take, None, Option, ◌≢◌}
use Rattle.std.specs.List.{AllByRecursion}
use Rattle.std.specs.Option.{option_map}
use Rattle.words.specs.declared.fault.Fault.{Fault}
use Rattle.words.specs.declared.fault.Kind.TheVariants.{UnfitStages}
use Rattle.words.specs.declared.fault.Layer.TheVariants.{Pile as the_pile}
use Rattle.words.specs.Buffers.{either}
use Rattle.words.specs.Distance.{differences}
use Rattle.words.specs.Faults.{fault}
use Rattle.words.specs.Soundness.{Sound}
use Rattle.chains.specs.declared.chain.Chain.{Ghosts as ChainGhosts}
use Rattle.chains.specs.Model.{ChainModel}
use Rattle.codes.specs.declared.code.Code.{Ghosts as CodeGhosts}
use Rattle.codes.specs.Model.{CodeModel, Message}
use Rattle.pile_laws.specs.Fit.{Fits, unfit}
use Rattle.pile_laws.specs.Pile.{pile}
use Rattle.piles.specs.declared.pile.Pile.{Pile}

-- the refusal of the first code that is not sound
abbrev pub first_refusal : {A : Type 0} → (A → Option Fault) → List A → Option Fault
first_refusal refusal [] = None
first_refusal refusal (a ∷ codes) = either (refusal a) (first_refusal refusal codes)

-- codes that do not fit the chain
abbrev pub fit_refusal : ChainModel → List CodeModel → Option Fault
fit_refusal h cs = option_map (fault UnfitStages the_pile) (unfit h cs)

module _ {H A : Type 0} (chains : ChainGhosts H) (codes : CodeGhosts A) where
  -- a chain and codes that are sound and fit each other
  abbrev pub SoundParts : H → List A → Type 0
  SoundParts chain stages =
      Sound chains.refusal chain × AllByRecursion (Sound codes.refusal) stages × Fits (chains.model chain) (map codes.model stages)

  -- the refusal of the chain comes first, then that of the first code that is not sound, and then 15
  abbrev pub parts_refusal : H → List A → Option Fault
  parts_refusal chain stages =
      either (chains.refusal chain)
      (either (first_refusal codes.refusal stages) (fit_refusal (chains.model chain) (map codes.model stages)))

  abbrev pub parts_model : H → List A → CodeModel
  parts_model chain stages = pile (chains.model chain) (map codes.model stages)

  -- the same of the pile that has these parts
  abbrev pub stages_of : Pile H A → List A
  stages_of p = take p.used p.stages

  abbrev pub SoundPile : Pile H A → Type 0
  SoundPile p = SoundParts p.chain (stages_of p)

  abbrev pub pile_refusal : Pile H A → Option Fault
  pile_refusal p = parts_refusal p.chain (stages_of p)

  abbrev pub pile_model : Pile H A → CodeModel
  pile_model p = parts_model p.chain (stages_of p)

-- the codewords of different messages differ in at least as many cells as the reach
abbrev pub LieApart : CodeModel → Type 0
LieApart c =
    (u v : List ℕ) → Message c u → Message c v → (u ≢ v) → c.distance ≤ differences (c.codeword u) (c.codeword v)
