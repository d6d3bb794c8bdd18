use Rattle.std.proofs.Common.{◌≡◌, length, take}
use Rattle.recipe_piles.specs.Made.{StagesHave}
use Rattle.recipe_piles.proofs.codes_made.make_codes.Given as goal

abbrev pub invariant-loop-i : goal.invariant-loop-i
invariant-loop-i l = (length l.codes ≡ 5) × StagesHave (take l.i l.stages) (take l.i l.codes)
