-- The worked examples of the rules, together. Each is stated of what the contracts of the calls speak of. Assumes nothing.
use Rattle.std.specs.Prelude.{◌≡◌, ℕ, None, Err, Result}
use Rattle.words.specs.declared.fault.Fault.{Fault}
use Rattle.words.specs.declared.fault.Kind.TheVariants.{NoCodeword}
use Rattle.words.specs.Faults.{number_of}
use Rattle.words.specs.Soundness.{Sound}
use Rattle.field_laws.specs.Extensions.{Extends}
use Rattle.field_laws.specs.Polynomials.{polynomial}
use Rattle.fields.specs.declared.extension.Extension.{Extension}
use Rattle.fields.specs.declared.polynomial.Polynomial.{Polynomial}
use Rattle.fields.specs.Answers.{Makes, unlawful}
use Rattle.fields.specs.Examples.{Examples}
use Rattle.reed_solomon.specs.Examples.{ReedSolomonExample}
use Rattle.codes.specs.Examples.{RepetitionExample}
use Rattle.chains.specs.Examples.{MullerExamples}
use Rattle.stage_laws.specs.Examples.{StageExample}

-- what the maker of extensions promises of a polynomial field, which is never refused, and of c
abbrev pub MakesExtension : Polynomial → ℕ → Result (Extension Polynomial) Fault → Type 0
MakesExtension base c = Makes (Sound (λ (_ : Polynomial). None) base × Extends (polynomial base.width) c) (λ (x : Extension Polynomial). (x.base ≡ base) × (x.c ≡ c))

pub record WorkedExamples : Type 0 where
  -- 2·5 = 1 at width 3, 2·0x8E = 1 at width 8, and 16·16 = 24 over width 4 with c = 8
  pub products : Examples
  pub lawful : Extends (polynomial 4) 8
  -- by c = 1 there the maker answers nothing but the refusal that is numbered 13
  pub refused : (base : Polynomial) → base.width ≡ 4 → (r : Result (Extension Polynomial) Fault) → MakesExtension base 1 r → r ≡ Err unlawful
  pub thirteen : number_of unlawful.kind ≡ 13
  -- 0 1 has the codeword 0 1 2 3 4 5 6 7, to which 0 1 2 3 0 0 0 7 corrects with harm 6
  pub reed_solomon : ReedSolomonExample
  -- 1 1 0 and a blank give 1 1 1 1 with harm 3; 1 1 0 0 is refused by NoCodeword, which is numbered 12
  pub repetition : RepetitionExample
  pub twelve : number_of NoCodeword ≡ 12
  -- 0 4 0 0 has the word 0 0 0 1 0 0 0 1; 1 1 1 1 1 0 0 0 gives label 1 with harm 6, and 1 1 1 1 0 0 0 0 nothing
  pub chain : MullerExamples
  -- the harms 0 6 choose 1 1 with score 10; with 6 6 both codewords score 16, and none is chosen
  pub stage : StageExample
