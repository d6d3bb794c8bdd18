use Rattle.std.proofs.Common.{◌≡◌, drop}
use Rattle.piles.specs.Sound.{first_refusal}
use Rattle.piles.proofs.fit.check_codes.Given as goal

-- the codes that are left have the refusal of all
abbrev pub invariant-loop-code : goal.invariant-loop-code
invariant-loop-code g l =
    first_refusal g.A.Code.refusal l.codes ≡ first_refusal g.A.Code.refusal (drop l.code-index l.codes)
