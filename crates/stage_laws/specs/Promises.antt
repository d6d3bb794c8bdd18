-- What the call that makes a stage's choice answers, refusals and the word after it included. Assumes nothing.
use Rattle.std.specs.Prelude.{◌≡◌, ℕ, suc, ◌^◌, Bool, true, cond, ◌&&◌, List, [], ◌∷◌, length, Some, None, Err, Option, Result, ◌==◌, nat_lt}
use Rattle.std.specs.Option as options
use Rattle.std.specs.Result as results
use Rattle.words.specs.declared.fault.Fault.{Fault}
use Rattle.words.specs.declared.fault.Kind.TheVariants.{WrongLength, TooLarge}
use Rattle.words.specs.declared.fault.Layer.TheVariants.{Pile}
use Rattle.words.specs.Buffers.{either}
use Rattle.words.specs.Faults.{fault}
use Rattle.chains.specs.declared.chain.Estimate.{Estimate}
use Rattle.codes.specs.Model.{CodeModel}
use Rattle.stage_laws.specs.Rule.{Chosen, Accepted}

-- another number of columns than the code has
abbrev pub length_refusal : ℕ → ℕ → Option Fault
length_refusal n have = cond (have == n) None (Some (fault WrongLength Pile have))

-- the least column, counted from j, whose label is no symbol or whose harm is not below the inner distance
abbrev pub fits_column : ℕ → ℕ → Option Estimate → Bool
fits_column symbols d None = true
fits_column symbols d (Some e) = nat_lt e.label symbols && nat_lt e.harm d

abbrev pub first_large : ℕ → ℕ → ℕ → List (Option Estimate) → Option Fault
first_large symbols d j [] = None
first_large symbols d j (e ∷ es) = cond (fits_column symbols d e) (first_large symbols d (suc j) es) (Some (fault TooLarge Pile j))

-- the estimates come before the word, and lengths before contents; the word is only written to
abbrev pub choose_refusal : CodeModel → ℕ → List (Option Estimate) → List ℕ → Option Fault
choose_refusal c d es word =
    either (length_refusal c.len (length es)) (either (length_refusal c.len (length word)) (first_large (2 ^ c.width) d 0 es))

-- the choice stands in the word, and the answer is its score; or there is none, and the word is as it was
abbrev pub Choice : CodeModel → ℕ → List (Option Estimate) → (word word' : List ℕ) → Option ℕ → Type 0
Choice c d es word word' (Some h) = Accepted c d es word' h
Choice c d es word word' None = (word' ≡ word) × ((u : List ℕ) → Chosen c d es u → ⊥)

abbrev pub Chose : CodeModel → ℕ → List (Option Estimate) → (word word' : List ℕ) → Result (Option ℕ) Fault → Type 0
Chose c d es word word' r =
    options.MatchOption (choose_refusal c d es word) (results.MatchResult r (Choice c d es word word') (λ _. ⊥)) (λ f. (r ≡ Err f) × (word' ≡ word))
