-- The worked example, by computing it. Assumes nothing.
use Rattle.std.proofs.Common.{[], ◌∷◌, refl, lit<}
use Rattle.field_laws.specs.Polynomials.{gate, double, times, seek}
use Rattle.reed_solomon.specs.Examples.{ReedSolomonExample}

pub reed_solomon_example : ReedSolomonExample
unfolding gate double times seek
reed_solomon_example = (refl, (0 ∷ 1 ∷ [], ((refl, (lit< tt, (lit< tt, tt))), lit< tt), refl, refl))
