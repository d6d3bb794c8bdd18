use Rattle.std.proofs.Common.{subst}
use Rattle.words.proofs.Rises.{raised}
use Rattle.codes.specs.Promises.{Corrected}
use Rattle.codes.proofs.Nearness.{only_one_near}
use Rattle.codes.proofs.Single.{answered_exactly, one_correction}
use Rattle.piles.specs.Sound.{parts_model, pile_model}
use Rattle.piles.proofs.Checks.{correct_refused}
use Rattle.piles.proofs.pile.PileCode.correct.Goals as goal

pub returns-in_err-check_correct-clause-only : goal.returns-in_err-check_correct-clause-only
returns-in_err-check_correct-clause-only g c =
    λ _. only_one_near (pile_model g.H.Chain g.A.Code c.args.self.now) c.in_ok-check.ensures.lawful c.args.word.now c.args.marks.now

pub returns-in_err-check_correct-clause-exactly : goal.returns-in_err-check_correct-clause-exactly
returns-in_err-check_correct-clause-exactly g c =
    let chain = c.args.self.now.chain in
    let word = c.args.word.now in
    let marks = c.args.marks.now in
    let r = c.from_residual-in_err-check_correct.result in
    let refused = correct_refused (parts_model g.H.Chain g.A.Code chain c.codes-codes.result.now) c.parameters.ensures word marks r c.in_err-check_correct.ensures (raised r c.from_residual-in_err-check_correct.ensures.1) in
    λ _. answered_exactly (pile_model g.H.Chain g.A.Code c.args.self.now) c.in_ok-check.ensures.lawful word marks word r
    (subst (λ codes. Corrected (parts_model g.H.Chain g.A.Code chain codes) word marks word r) c.codes-codes.ensures refused)

pub returns-clause-only : goal.returns-clause-only
returns-clause-only g c =
    λ _. only_one_near (pile_model g.H.Chain g.A.Code c.args.self.now) c.in_ok-check.ensures.lawful c.args.word.now c.args.marks.now

pub returns-clause-single : goal.returns-clause-single
returns-clause-single g c =
    λ _. one_correction (pile_model g.H.Chain g.A.Code c.args.self.now) c.in_ok-check.ensures.lawful c.args.word.now c.args.marks.now

pub returns-clause-exactly : goal.returns-clause-exactly
returns-clause-exactly g c =
    let chain = c.args.self.now.chain in
    let word = c.args.word.now in
    let marks = c.args.marks.now in
    λ _. answered_exactly (pile_model g.H.Chain g.A.Code c.args.self.now) c.in_ok-check.ensures.lawful word marks c.replace.new.word c.replace.result
    (subst (λ codes. Corrected (parts_model g.H.Chain g.A.Code chain codes) word marks c.replace.new.word c.replace.result) c.codes-codes.ensures c.replace.ensures)
