use Rattle.std.proofs.Common.{arith}
use Rattle.recipes.proofs.Triangle.{width_small}
use Rattle.recipes.proofs.fields.read_stage.Goals as goal

pub fits-requires : goal.fits-requires
fits-requires c = omega (arith, c.width-width.ensures, width_small _ _ c.requires.0 c.requires.1.0)
