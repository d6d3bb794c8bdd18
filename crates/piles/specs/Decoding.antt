-- What the steps of decoding leave: the stages' words lie one behind the other in a row. Assumes nothing.
use Rattle.std.specs.Prelude.{◌≡◌, ℕ, suc, ◌*◌, ◌<◌, ◌≤◌, List, map, length, None, Option, Result, MatchResult, slice_index_or}
use Rattle.words.specs.declared.fault.Fault.{Fault}
use Rattle.words.specs.declared.fault.Kind.TheVariants.{NoCodeword}
use Rattle.words.specs.declared.fault.Layer.TheVariants.{Code}
use Rattle.words.specs.Faults.{fault}
use Rattle.words.specs.Harm.{harm}
use Rattle.chains.specs.declared.chain.Estimate.{Estimate}
use Rattle.chains.specs.declared.chain.Chain.{Ghosts as ChainGhosts}
use Rattle.chains.specs.Model.{Cells, ChainModel}
use Rattle.chains.specs.Promises.{Estimates}
use Rattle.codes.specs.declared.code.Code.{Ghosts as CodeGhosts}
use Rattle.codes.specs.Model.{CodeModel, Message}
use Rattle.pile_laws.specs.Build.{columns, labels_at, laid, reach}
use Rattle.pile_laws.specs.Flat.{words_in}
use Rattle.pile_laws.specs.Pile.{GivesUp, pile}
use Rattle.pile_laws.proofs.Outcomes.{EncodedAt}
use Rattle.pile_laws.specs.Stages.{Choices, NextChoice, NoChoice, column}
use Rattle.piles.specs.declared.choices.Search.{Search}
use Rattle.piles.specs.Sound.{SoundParts}

-- a word and its marks, over so many columns of the chain's cells
abbrev pub ReadWord : ChainModel → ℕ → (word marks : List ℕ) → Type 0
ReadWord h n word marks = Cells (h.breadth * n) word × Cells (h.breadth * n) marks

-- what a search is handed: parts that are sound and fit, the columns that they have, and a word of theirs with its marks
module _ {H A : Type 0} (chains : ChainGhosts H) (codes : CodeGhosts A) where
  pub record Searched (s : Search H A) : Type 0 where
    pub parts : SoundParts chains codes s.chain.now s.codes.now
    pub columns : s.columns ≡ columns (map codes.model s.codes.now)
    pub few : s.columns ≤ 4096
    pub reads : ReadWord (chains.model s.chain.now) s.columns s.word.now s.marks.now

-- the estimates of all columns, after k stages
abbrev pub EstimatedColumns : ChainModel → (n k : ℕ) → (row word marks : List ℕ) → List (Option Estimate) → Type 0
EstimatedColumns h n k row word marks es =
    (j : ℕ) → j < n → Estimates h (suc k) (labels_at (words_in n k row) j) (column h.breadth j word) (column h.breadth j marks) (slice_index_or es j None)

-- one stage more: its choice stands behind the words of the k stages before it, or there is none
abbrev pub Chooses : ChainModel → List CodeModel → (n k : ℕ) → (word marks row row' : List ℕ) → Result (Unit {0}) Fault → Type 0
Chooses h cs n k word marks row row' r =
    MatchResult r (λ _. (words_in n k row' ≡ words_in n k row) × NextChoice h cs word marks (words_in n k row) (column n k row'))
    (λ f. (f ≡ fault NoCodeword Code (suc k)) × NoChoice h cs word marks (words_in n k row))

-- the first stage without a choice
abbrev pub WithoutChoice : ChainModel → List CodeModel → (word marks : List ℕ) → Fault → Type 0
WithoutChoice h cs word marks f =
    (words : List (List ℕ)) × Choices h cs word marks words × (length words < length cs) × NoChoice h cs word marks words × (f ≡ fault NoCodeword Code (suc (length words)))

-- the choices of all s stages, or the first without one
abbrev pub ChoosesAll : ChainModel → List CodeModel → (n s : ℕ) → (word marks row : List ℕ) → Result (Unit {0}) Fault → Type 0
ChoosesAll h cs n s word marks row r = MatchResult r (λ _. Choices h cs word marks (words_in n s row)) (WithoutChoice h cs word marks)

-- the word that the choices make, if it is near enough
abbrev pub Finds : ChainModel → List CodeModel → (n s : ℕ) → (word marks row found : List ℕ) → Result ℕ Fault → Type 0
Finds h cs n s word marks row found r =
    MatchResult r (λ d. Choices h cs word marks (words_in n s row) × (found ≡ laid h n (words_in n s row)) × (d ≡ harm word marks found) × (d < reach h cs))
    (λ f. (place : ℕ) × GivesUp h cs word marks place × (f ≡ fault NoCodeword Code place))

-- the stages' codewords of a word that is a codeword
abbrev pub Recognizes : ChainModel → List CodeModel → (n s : ℕ) → (word row : List ℕ) → Result (Unit {0}) Fault → Type 0
Recognizes h cs n s word row r =
    MatchResult r (λ _. (laid h n (words_in n s row) ≡ word) × ((k : ℕ) → k < s → EncodedAt cs (words_in n s row) k))
    (λ f. (f ≡ fault NoCodeword Code 0) × ((u : List ℕ) → Message (pile h cs) u → (pile h cs).codeword u ≡ word → ⊥))
