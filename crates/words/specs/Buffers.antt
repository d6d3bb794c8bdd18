-- What a call asks of the buffers that it is handed, and which refusal it gives. Assumes nothing.
use Rattle.std.specs.Prelude.{◌≡◌, ℕ, suc, ◌<◌, cond, List, [], ◌∷◌, length, Some, None, Ok, Err, Option, Result, ◌==◌, nat_lt}
use Rattle.std.specs.List.{AllByRecursion}
use Rattle.words.specs.declared.buffer.Buffer.{Buffer}
use Rattle.words.specs.declared.fault.Fault.{Fault}
use Rattle.words.specs.declared.fault.Kind.TheVariants.{WrongLength, TooLarge}
use Rattle.words.specs.declared.fault.Layer.{Layer}
use Rattle.words.specs.Faults.{fault}

-- a buffer as a call is handed it: what it holds, how long it must be, and what each of its values must lie below
pub record Given : Type 0 where
  pub content : List ℕ
  pub wanted : ℕ
  pub below : ℕ

-- a buffer whose values lie below a bound, and one that is only written to, whose values are not looked at
abbrev pub values_below : ℕ → ℕ → List ℕ → Given
values_below bound n xs = record { content = xs; wanted = n; below = bound }

abbrev pub written_to : ℕ → List ℕ → Given
written_to n xs = record { content = xs; wanted = n; below = 256 }

abbrev pub given : Buffer → Given
given b = record { content = b.content.now; wanted = b.wanted; below = b.below }

-- a length other than the one that is wanted
abbrev pub wrong_length : Layer → Given → Option Fault
wrong_length layer b = cond (length b.content == b.wanted) None (Some (fault WrongLength layer (length b.content)))

-- the least index, counted from i, whose value is not below the bound
abbrev pub first_large : Layer → ℕ → ℕ → List ℕ → Option Fault
first_large layer bound i [] = None
first_large layer bound i (x ∷ xs) = cond (nat_lt x bound) (first_large layer bound (suc i) xs) (Some (fault TooLarge layer i))

abbrev pub too_large : Layer → Given → Option Fault
too_large layer b = first_large layer b.below 0 b.content

abbrev pub either : {X : Type 0} → Option X → Option X → Option X
either None y = y
either (Some x) y = Some x

abbrev pub first_of : (Given → Option Fault) → List Given → Option Fault
first_of f [] = None
first_of f (b ∷ bs) = either (f b) (first_of f bs)

-- the refusal of a row of buffers, taken in their order: all lengths come before all contents
abbrev pub refusal : Layer → List Given → Option Fault
refusal layer bs = either (first_of (wrong_length layer) bs) (first_of (too_large layer) bs)

-- a buffer that no check refuses
abbrev pub Fits : Given → Type 0
Fits b = (length b.content ≡ b.wanted) × AllByRecursion (λ x. x < b.below) b.content

-- the refusal that is due, else the answer
abbrev pub answered : {X : Type 0} → Option Fault → X → Result X Fault
answered None x = Ok x
answered (Some f) x = Err f

-- a check gives just the refusal that is due, and lets everything else through
abbrev pub checked : Option Fault → Result (Unit {0}) Fault
checked due = answered due tt
