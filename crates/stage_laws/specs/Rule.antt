-- The stage rule: which outer codeword a stage takes, by the estimates of its columns. Assumes nothing.
use Rattle.std.specs.Prelude.{◌≡◌, ℕ, ◌+◌, ◌-◌, ◌*◌, ◌<◌, cond, List, [], ◌∷◌, Some, None, Option, ◌==◌}
use Rattle.chains.specs.declared.chain.Estimate.{Estimate}
use Rattle.codes.specs.Model.{CodeModel, Message}

-- what a column scores where an outer codeword has the symbol x, at the inner distance d
abbrev pub score_at : ℕ → Option Estimate → ℕ → ℕ
score_at d None x = d
score_at d (Some e) x = cond (e.label == x) e.harm (2 * d - e.harm)

-- the score of an outer codeword, summed over the columns
abbrev pub score : ℕ → List (Option Estimate) → List ℕ → ℕ
score d [] word = 0
score d (e ∷ es) [] = 0
score d (e ∷ es) (x ∷ word) = score_at d e x + score d es word

-- a message whose codeword is the choice: it scores below the inner times the outer distance
abbrev pub Chosen : CodeModel → ℕ → List (Option Estimate) → List ℕ → Type 0
Chosen c d es u = Message c u × (score d es (c.codeword u) < d * c.distance)

-- a word is the choice, with its score
abbrev pub Accepted : CodeModel → ℕ → List (Option Estimate) → List ℕ → ℕ → Type 0
Accepted c d es word h = (u : List ℕ) × Chosen c d es u × (word ≡ c.codeword u) × (h ≡ score d es (c.codeword u))

-- an estimate at the inner distance d has a smaller harm
abbrev pub Within : ℕ → Option Estimate → Type 0
Within d None = Unit {0}
Within d (Some e) = e.harm < d

-- at most one codeword is the choice
abbrev pub OneChoice : CodeModel → ℕ → List (Option Estimate) → Type 0
OneChoice c d es = (u v : List ℕ) → Chosen c d es u → Chosen c d es v → u ≡ v
