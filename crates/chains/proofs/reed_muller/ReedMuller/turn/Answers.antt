use Rattle.std.proofs.Common.{◌≡◌, ℕ, ◌-◌, ◌^◌, ◌<◌, get_or, ap, ◌∙◌, subst, arith}
use Rattle.chains.specs.ReedMuller.{order}
use Rattle.chains.specs.Votes.{subsets}
use Rattle.chains.specs.MullerColumns.{muller_sizes}
use Rattle.chains.proofs.MullerSteps.{turn_word, turn_small}
use Rattle.chains.proofs.reed_muller.ReedMuller.turn.Goals as goal

pub subsets-requires : goal.subsets-requires
subsets-requires c = omega (arith, c.cells.ensures, (muller_sizes c.args.self.now.r c.args.self.now.range).few_cells)

pub returns-else-bit-eq0 : goal.returns-else-bit-eq0
returns-else-bit-eq0 c =
    let r = c.args.self.now.r in
    let s = get_or (order r) c.args.t 0 in
    let within : s < 2 ^ r = subst (λ (x : ℕ). x < 2 ^ r) c.number.ensures.is c.number.ensures.small in
    let same : c.cells.result - 1 - c.number.result ≡ 2 ^ r - 1 - s = omega (arith, c.cells.ensures, c.number.ensures.is) in
    let set : c.subsets.result ≡ subsets (2 ^ r - 1 - s) = c.subsets.ensures ∙ ap subsets same in
    record {
      is = turn_word r c.args.self.now.range s c.args.bit c.args.word c.subsets.result within set c.if-bit-eq0.false;
      small = turn_small r c.args.self.now.range s c.args.word c.subsets.result within set c.requires.1;
    }
