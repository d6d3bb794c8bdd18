use Rattle.std.proofs.Common.{length, ap, arith}
use Rattle.words.proofs.Rises.{checked_ok}
use Rattle.chains.specs.Fits.{stage_fits}
use Rattle.chains.specs.MullerColumns.{muller_sizes}
use Rattle.chains.proofs.reed_muller.ReedMullerChain.width.Goals as goal

pub bounds-widths-stage : goal.bounds-widths-stage
bounds-widths-stage c =
    let fits = stage_fits _ c.args.stage (checked_ok _ c.in_ok-check_stage.ensures) in
    omega (arith, fits.0, fits.1, ap length c.widths.ensures, (muller_sizes c.args.self.now.r c.args.self.now.range).stages)
