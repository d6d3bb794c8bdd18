-- Which extensions are refused, and what the numbers of one mean that is not, where q is the size of the field below. Assumes nothing.
use Rattle.std.specs.Prelude.{◌≡◌, ℕ, ◌+◌, ◌*◌, ◌<◌, Bool, true, false, cond, Some, None, Ok, Option, Result}
use Rattle.std.proofs.Common.{sym}
use Rattle.std.proofs.lemmas.Option.{none-some, same_Some}
use Rattle.words.specs.declared.fault.Fault.{Fault}
use Rattle.words.specs.Buffers.{either}
use Rattle.words.proofs.Passes.{none_left, none_right, passed}
use Rattle.field_laws.specs.Extensions.{extends, extension}
use Rattle.field_laws.specs.Fields.{FieldModel, FieldLaws, size}
use Rattle.field_laws.proofs.Extending.{extends_of}
use Rattle.field_laws.proofs.ExtensionLaws.{extension_laws}
use Rattle.fields.specs.Answers.{unlawful}

-- none exactly where c extends the field
abbrev pub extension_refusal : FieldModel → ℕ → Option Fault
extension_refusal f c = cond (extends f c) None (Some unlawful)

-- the field below is looked at first
abbrev pub refusal_above : Option Fault → FieldModel → ℕ → Option Fault
refusal_above below f c = either below (extension_refusal f c)

abbrev pub SoundExtension : Option Fault → FieldModel → ℕ → Type 0
SoundExtension below f c = refusal_above below f c ≡ None

-- an extension that is not refused keeps the laws
pub extension_lawful : (below : Option Fault) (f : FieldModel) → (below ≡ None → FieldLaws f) → (c : ℕ) →
    SoundExtension below f c → FieldLaws (extension f c)
extension_lawful below f lawful c s =
    extension_laws f (lawful (none_left below _ s)) c (extends_of f c (passed (extends f c) unlawful (none_right below (extension_refusal f c) s)))

-- whatever the field below, an extension is refused by 13
refused_so : (t : Bool) (x e : Fault) → cond t None (Some x) ≡ Some e → e ≡ x
refused_so true x e due = absurd (none-some e due)
refused_so false x e due = sym (same_Some x e due)

pub fault_above : (below : Option Fault) (f : FieldModel) (c : ℕ) → ((e : Fault) → below ≡ Some e → e ≡ unlawful) →
    (e : Fault) → refusal_above below f c ≡ Some e → e ≡ unlawful
fault_above (Some x) f c one e due = one e due
fault_above None f c one e due = refused_so (extends f c) unlawful e due

-- numbers below q are the elements below
abbrev pub SumsBelow : FieldModel → (a b : ℕ) → Result ℕ Fault → Type 0
SumsBelow f a b r = a < size f → b < size f → r ≡ Ok (f.sum a b)

abbrev pub MultipliesBelow : FieldModel → (a b : ℕ) → Result ℕ Fault → Type 0
MultipliesBelow f a b r = a < size f → b < size f → r ≡ Ok (f.product a b)

-- y is numbered q and c + y is numbered c + q: y·y = c + y
abbrev pub SquaresRoot : FieldModel → (c a b : ℕ) → Result ℕ Fault → Type 0
SquaresRoot f c a b r = a ≡ size f → b ≡ size f → r ≡ Ok (c + size f)

-- b·y is numbered q·b, and a + b·y is numbered a + q·b
abbrev pub MultipliesRoot : FieldModel → (b y : ℕ) → Result ℕ Fault → Type 0
MultipliesRoot f b y r = b < size f → y ≡ size f → r ≡ Ok (size f * b)

abbrev pub SumsParts : FieldModel → (a by : ℕ) → Result ℕ Fault → Type 0
SumsParts f a by r = a < size f → (b : ℕ) → b < size f → by ≡ size f * b → r ≡ Ok (a + size f * b)
