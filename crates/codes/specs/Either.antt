-- A code of one of two types means what the one that it holds means. Assumes nothing.
use Rattle.std.specs.Prelude.{Option}
use Rattle.words.specs.declared.fault.Fault.{Fault}
use Rattle.words.specs.Soundness.{Sound}
use Rattle.either.specs.declared.Either.{Either}
use Rattle.either.specs.declared.Either.TheVariants.{Left, Right}
use Rattle.codes.specs.Model.{CodeModel, Lawful}

abbrev pub either_model : {A B : Type 0} → (A → CodeModel) → (B → CodeModel) → Either A B → CodeModel
either_model f g (Left a) = f a
either_model f g (Right b) = g b

abbrev pub either_refusal : {A B : Type 0} → (A → Option Fault) → (B → Option Fault) → Either A B → Option Fault
either_refusal f g (Left a) = f a
either_refusal f g (Right b) = g b

-- it is lawful where both kinds are
pub either_lawful : {A B : Type 0} (f : A → CodeModel) (g : B → CodeModel) (rf : A → Option Fault) (rg : B → Option Fault) → ((a : A) → Sound rf a → Lawful (f a)) → ((b : B) → Sound rg b → Lawful (g b)) → (c : Either A B) → Sound (either_refusal rf rg) c → Lawful (either_model f g c)
either_lawful f g rf rg left right (Left a) s = left a s
either_lawful f g rf rg left right (Right b) s = right b s
