use Rattle.words.proofs.Rises.{checked_ok}
use Rattle.piles.specs.FromRefusal.{each_sound}
use Rattle.piles.proofs.fit.check_parts.Goals as goal

pub check_fit-requires : goal.check_fit-requires
check_fit-requires g c =
    (checked_ok _ c.in_ok-check.ensures.refused, each_sound g.A.Code.refusal c.args.codes.now (checked_ok _ c.in_ok-check_codes.ensures))
