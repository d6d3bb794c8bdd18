use Rattle.std.proofs.Common.{refl}
use Rattle.words.proofs.Rises.{raised}
use Rattle.fields.proofs.Refusing.{extends_above, not_both}
use Rattle.fields.proofs.extension.Extension.new.Goals as goal

pub returns-in_err-check : goal.returns-in_err-check
returns-in_err-check g c =
    rw (raised c.from_residual.result c.from_residual.ensures.1)
    (not_both (g.F.Field.model c.args.base) c.args.c (g.F.Field.refusal c.args.base) c.in_err-check.ensures.refused, c.in_err-check.ensures.number)

pub returns : goal.returns
returns g c =
    (extends_above (g.F.Field.model c.args.base) c.args.c (g.F.Field.refusal c.args.base) c.in_ok-check.ensures.refused, (refl, refl))
