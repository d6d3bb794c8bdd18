-- The states of a cell as the numbers of the model. Assumes nothing.
use Rattle.std.specs.Prelude.{ℕ}
use Rattle.media.specs.declared.state.State.{State}
use Rattle.media.specs.declared.state.State.TheVariants.{Zero, One, Blank}

abbrev pub number : State → ℕ
number Zero = 0
number One = 1
number Blank = 2
