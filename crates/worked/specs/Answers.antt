-- What the worked examples answer when they are run. Assumes nothing.
use Rattle.std.specs.Prelude.{[], ◌∷◌, Some, None}
use Rattle.worked.specs.declared.examples.Worked.{Worked}

abbrev pub worked : Worked
worked = record {
  products = 1 ∷ 1 ∷ 24 ∷ [];
  unlawful = Some 13;
  codeword = 0 ∷ 1 ∷ 2 ∷ 3 ∷ 4 ∷ 5 ∷ 6 ∷ 7 ∷ [];
  mended = (0 ∷ 1 ∷ 2 ∷ 3 ∷ 4 ∷ 5 ∷ 6 ∷ 7 ∷ [], 6);
  repeated = (1 ∷ 1 ∷ 1 ∷ 1 ∷ [], 3);
  too_far = Some 12;
  cells = 0 ∷ 0 ∷ 0 ∷ 1 ∷ 0 ∷ 0 ∷ 0 ∷ 1 ∷ [];
  near = Some (record { label = 1; harm = 6 });
  midway = None;
  chosen = (1 ∷ 1 ∷ [], Some 10);
  tied = (0 ∷ 0 ∷ [], None);
}
