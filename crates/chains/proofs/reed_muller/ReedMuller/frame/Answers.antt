use Rattle.std.proofs.Common.{◌≤◌, sym, subst}
use Rattle.std.specs.List.{AllByRecursion}
use Rattle.std.proofs.lemmas.List.Elements.{All-from_recursion}
use Rattle.chains.specs.MullerColumns.{muller_sizes}
use Rattle.chains.proofs.reed_muller.ReedMuller.frame.Goals as goal

pub invariant_of-result : goal.invariant_of-result
invariant_of-result c =
    let sizes = muller_sizes c.args.self.now.r c.args.self.now.range in
    record { narrow = All-from_recursion (λ w. w ≤ 8) _ (subst (AllByRecursion (λ w. w ≤ 8)) (sym c.widths.ensures) sizes.few_width) }
