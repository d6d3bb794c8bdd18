-- At most one codeword lies nearer than the distance. Assumes nothing.
use Rattle.std.proofs.Common.{◌≡◌, ℕ, List, sym, ◌∙◌, arith}
use mathlib.Core.List.{List-discrete}
use native.Mathlib.Decide.{ℕ_discrete}
use Rattle.words.proofs.Distances.{harms_apart}
use Rattle.codes.specs.Model.{CodeModel, Lawful, OnlyOneNear}

pub only_one_near : (c : CodeModel) → Lawful c → (word marks : List ℕ) → OnlyOneNear c word marks
only_one_near c lawful word marks lw lm u v nu nv = by (List-discrete ℕ_discrete u v)
  where
    far : (u ≡ v → ⊥) → ⊥
    far ne =
        let lu = (lawful.symbols u nu.0).0 in
        let lv = (lawful.symbols v nv.0).0 in
        omega (arith, lawful.apart u v nu.0 nv.0 ne, harms_apart word marks (c.codeword u) (c.codeword v) (lm ∙ sym lw) (lu ∙ sym lw) (lv ∙ sym lw), nu.1, nv.1)

    by : Dec (u ≡ v) → u ≡ v
    by (yes e) = e
    by (no ne) = absurd (far ne)
