-- The worked examples, each where it is proved. Assumes nothing.
use Rattle.std.proofs.Common.{◌≡◌, ℕ, Ok, Err, Result, refl, ap, subst}
use Rattle.words.specs.declared.fault.Fault.{Fault}
use Rattle.field_laws.specs.Extensions.{Extends}
use Rattle.field_laws.specs.Polynomials.{polynomial}
use Rattle.field_laws.proofs.Roots.{extends_8, not_by_one}
use Rattle.fields.specs.declared.extension.Extension.{Extension}
use Rattle.fields.specs.declared.polynomial.Polynomial.{Polynomial}
use Rattle.fields.specs.Answers.{unlawful}
use Rattle.fields.proofs.Extending as fields
use Rattle.reed_solomon.proofs.Examples.{reed_solomon_example}
use Rattle.codes.proofs.Examples.{repetition_example}
use Rattle.chains.proofs.MullerExamples.{muller_examples}
use Rattle.stage_laws.proofs.Examples.{stage_example}
use Rattle.worked.specs.Examples.{MakesExtension, WorkedExamples}

refused : (base : Polynomial) → base.width ≡ 4 → (r : Result (Extension Polynomial) Fault) → MakesExtension base 1 r → r ≡ Err unlawful
refused base is (Ok x) made = absurd (not_by_one (subst (λ (m : ℕ). Extends (polynomial m) 1) is made.0.1))
refused base is (Err f) made = ap Err made.1

pub worked_examples : WorkedExamples
worked_examples = record {
  products = fields.examples;
  lawful = extends_8;
  refused = refused;
  thirteen = refl;
  reed_solomon = reed_solomon_example;
  repetition = repetition_example;
  twelve = refl;
  chain = muller_examples;
  stage = stage_example;
}
