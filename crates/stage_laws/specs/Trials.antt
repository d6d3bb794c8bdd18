-- A trial of a stage: what the code is handed at a threshold, and what the trials tell. Assumes nothing.
use Rattle.std.specs.Prelude.{◌≡◌, ℕ, ◌^◌, ◌<◌, ◌≤◌, cond, List, map, length, Some, None, Option, nat_lt}
use Rattle.std.specs.List.{AllByRecursion}
use Rattle.std.specs.Option as options
use Rattle.words.specs.Harm.{harm}
use Rattle.chains.specs.declared.chain.Estimate.{Estimate}
use Rattle.codes.specs.Model.{CodeModel}
use Rattle.stage_laws.specs.Rule.{Chosen, Within, Accepted}

-- a column gives its label, and 0 where its estimate is absent
abbrev pub trial_symbol : Option Estimate → ℕ
trial_symbol None = 0
trial_symbol (Some e) = e.label

-- a column is blank where its estimate is absent, or where its harm reaches the threshold
abbrev pub trial_mark : ℕ → Option Estimate → ℕ
trial_mark t None = 1
trial_mark t (Some e) = cond (nat_lt e.harm t) 0 1

-- the harm of a trial against a word
abbrev pub trial_harm : ℕ → List (Option Estimate) → List ℕ → ℕ
trial_harm t es word = harm (map trial_symbol es) (map (trial_mark t) es) word

-- estimates that no check refuses
abbrev pub Fitting : CodeModel → ℕ → List (Option Estimate) → Type 0
Fitting c d es = (length es ≡ c.len) × AllByRecursion (λ e. trial_symbol e < 2 ^ c.width) es × AllByRecursion (Within d) es

-- a trial gives the choice, or shows that every choice lies too far for it
abbrev pub Tried : CodeModel → ℕ → List (Option Estimate) → ℕ → List ℕ → Option ℕ → Type 0
Tried c d es t word r =
    options.MatchOption r ((u : List ℕ) → Chosen c d es u → c.distance ≤ trial_harm t es (c.codeword u)) (λ h. Accepted c d es word h)
