-- A chain of one of two types means what the one that it holds means. Assumes nothing.
use Rattle.std.specs.Prelude.{◌≡◌, Some, None, Option}
use Rattle.std.proofs.lemmas.Option.{none-some}
use Rattle.words.specs.declared.fault.Fault.{Fault}
use Rattle.words.specs.Soundness.{Sound}
use Rattle.either.specs.declared.Either.{Either}
use Rattle.either.specs.declared.Either.TheVariants.{Left, Right}
use Rattle.chains.specs.Model.{ChainModel, LawfulChain}
use Rattle.chains.specs.Refusals.{outside}

abbrev pub either_chain : {X Y : Type 0} → (X → ChainModel) → (Y → ChainModel) → Either X Y → ChainModel
either_chain f g (Left x) = f x
either_chain f g (Right y) = g y

abbrev pub either_refusal : {X Y : Type 0} → (X → Option Fault) → (Y → Option Fault) → Either X Y → Option Fault
either_refusal f g (Left x) = f x
either_refusal f g (Right y) = g y

-- it is lawful where both kinds are
pub either_lawful : {X Y : Type 0} (f : X → ChainModel) (g : Y → ChainModel) (rf : X → Option Fault) (rg : Y → Option Fault) → ((x : X) → Sound rf x → LawfulChain (f x)) → ((y : Y) → Sound rg y → LawfulChain (g y)) → (h : Either X Y) → Sound (either_refusal rf rg) h → LawfulChain (either_chain f g h)
either_lawful f g rf rg left right (Left x) s = left x s
either_lawful f g rf rg left right (Right y) s = right y s

-- what is refused by no fault is refused by just that one
pub never_refused : (f : Fault) → None ≡ Some f → f ≡ outside
never_refused f due = absurd (none-some f due)

pub either_fault : {X Y : Type 0} (rf : X → Option Fault) (rg : Y → Option Fault) → ((x : X) (e : Fault) → rf x ≡ Some e → e ≡ outside) → ((y : Y) (e : Fault) → rg y ≡ Some e → e ≡ outside) → (h : Either X Y) (e : Fault) → either_refusal rf rg h ≡ Some e → e ≡ outside
either_fault rf rg left right (Left x) e due = left x e due
either_fault rf rg left right (Right y) e due = right y e due
