-- A pile is a code of width 1. Assumes nothing.
use Rattle.std.specs.Prelude.{◌≡◌, ℕ, suc, ◌*◌, ◌<◌, ◌≤◌, ◌⊎◌, List, length}
use Rattle.words.specs.Harm.{harm}
use Rattle.chains.specs.Model.{ChainModel}
use Rattle.codes.specs.Model.{CodeModel}
use Rattle.pile_laws.specs.Build.{columns, laid, reach, stage_words, total_bits}
use Rattle.pile_laws.specs.Stages.{Choices, NoChoice}

-- the place that a refusal names: the first stage without a choice, and 0 where all stages choose but the whole is too far
abbrev pub GivesUp : ChainModel → List CodeModel → (word marks : List ℕ) → ℕ → Type 0
GivesUp h cs word marks place =
    (words : List (List ℕ)) × Choices h cs word marks words
    × (((place ≡ suc (length words)) × (length words < length cs) × NoChoice h cs word marks words)
    ⊎ ((place ≡ 0) × (length words ≡ length cs) × (reach h cs ≤ harm word marks (laid h (columns cs) words))))

abbrev pub pile : ChainModel → List CodeModel → CodeModel
pile h cs =
    record {
      width = 1;
      len = h.breadth * columns cs;
      message_len = total_bits cs;
      distance = reach h cs;
      codeword = λ u. laid h (columns cs) (stage_words cs u);
      Blames = GivesUp h cs;
    }
