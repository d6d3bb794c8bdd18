-- Which numbers a Reed-Solomon code takes over a field, and which refusal comes first. Assumes nothing.
use Rattle.std.specs.Prelude.{◌≡◌, ℕ, Result, MatchResult}
use Rattle.words.specs.declared.fault.Fault.{Fault}
use Rattle.words.specs.declared.fault.Kind.TheVariants.{OutsideKind}
use Rattle.words.specs.declared.fault.Layer.TheVariants.{Code}
use Rattle.words.specs.Faults.{fault}
use Rattle.fields.specs.Answers.{unlawful}
use Rattle.field_laws.specs.Fields.{FieldModel}
use Rattle.reed_solomon_laws.specs.Words.{InKind, Systematic}

-- 13 of an unsound field comes first, then 14
abbrev pub Refuses : Type 0 → FieldModel → (n k : ℕ) → Fault → Type 0
Refuses Sound f n k e =
    ((Sound → ⊥) → e ≡ unlawful) × (Sound → (InKind f n k → ⊥) × (e ≡ fault OutsideKind Code 0)) × (Sound → InKind f n k → ⊥)

-- a code as it was asked for, whose codewords begin with their messages
abbrev pub Makes : {C : Type 0} → Type 0 → FieldModel → (n k : ℕ) → (C → Type 0) → Result C Fault → Type 0
Makes Sound f n k Is r = MatchResult r (λ c. (Sound × InKind f n k) × Is c × Systematic f n k) (Refuses Sound f n k)
