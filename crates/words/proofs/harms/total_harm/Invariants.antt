use Rattle.std.proofs.Common.{◌≡◌, ◌+◌, ◌*◌, ◌≤◌, drop}
use Rattle.words.specs.Harm.{harm}
use Rattle.words.proofs.harms.total_harm.Given as goal

-- the harm so far and that of what is left make up the whole
abbrev pub invariant-loop-i : goal.invariant-loop-i
invariant-loop-i l = (l.total ≤ 2 * l.i) × (l.total + harm (drop l.i l.word) (drop l.i l.marks) (drop l.i l.codeword) ≡ harm l.word l.marks l.codeword)
