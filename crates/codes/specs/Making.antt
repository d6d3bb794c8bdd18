-- Which numbers a kind of code takes. Assumes nothing.
use Rattle.std.specs.Prelude.{◌≡◌, ℕ, ◌≤◌, Result, MatchResult}
use Rattle.words.specs.declared.fault.Fault.{Fault}
use Rattle.words.specs.declared.fault.Kind.TheVariants.{OutsideKind}
use Rattle.words.specs.declared.fault.Layer.TheVariants.{Code}
use Rattle.words.specs.Faults.{fault}

-- a width of 1 to 8 bits and a length of 1 to 4,096 places
abbrev pub InRange : ℕ → ℕ → Type 0
InRange m n = ((1 ≤ m) × (m ≤ 8)) × ((1 ≤ n) × (n ≤ 4096))

-- a maker gives what it was asked for where the numbers are those of the kind, and else refuses with 14
abbrev pub Made : {X : Type 0} → Type 0 → (X → Type 0) → Result X Fault → Type 0
Made Fit Is r = MatchResult r (λ x. Fit × Is x) (λ f. (Fit → ⊥) × (f ≡ fault OutsideKind Code 0))
