use Rattle.std.proofs.Common.{◌≡◌, map, take}
use Rattle.stage_laws.specs.Trials.{trial_symbol}
use Rattle.stages.proofs.columns.Columns.write_symbols.Given as goal

abbrev pub invariant-loop-j : goal.invariant-loop-j
invariant-loop-j l = take l.j l.word ≡ map trial_symbol (take l.j l.self.estimates.now)
