-- What a check that answers says of a field and the lengths over it. Assumes nothing.
use Rattle.std.proofs.Common.{◌≡◌, ℕ, None, Ok, Option}
use Rattle.words.specs.declared.fault.Fault.{Fault}
use Rattle.words.specs.Buffers.{checked}
use Rattle.words.proofs.Rises.{checked_ok}
use Rattle.field_laws.specs.Fields.{FieldModel}
use Rattle.reed_solomon_laws.specs.Words.{InKind, refusal_over}
use Rattle.reed_solomon_laws.proofs.Fitting.{both_of_none}

pub sound_of : (below : Option Fault) (f : FieldModel) (n k : ℕ) {u : Unit {0}} → Ok u ≡ checked (refusal_over below f n k) → (below ≡ None) × InKind f n k
sound_of below f n k e = both_of_none f n k below (checked_ok _ e)
