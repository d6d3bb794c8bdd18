use Rattle.std.proofs.Common.{◌≡◌, subst}
use Rattle.words.specs.Buffers.{checked}
use Rattle.piles.specs.FromRefusal.{none_refused, parts_lawful, sound_parts}
use Rattle.piles.specs.Sound.{parts_refusal, pile_model, pile_refusal, stages_of}
use Rattle.codes.specs.Model.{Lawful}
use Rattle.piles.proofs.Checks.{none_from_ok, ok_from_none, on_ok}
use Rattle.piles.proofs.pile.PileCode.check.Goals as goal

pub returns-clause-sound : goal.returns-clause-sound
returns-clause-sound g c =
    let self = c.args.self.now in
    let due = pile_refusal g.H.Chain g.A.Code self in
    let is = subst (λ xs. c.check_parts.result ≡ checked (parts_refusal g.H.Chain g.A.Code self.chain xs)) c.codes.ensures c.check_parts.ensures in
    let stages = stages_of g.H.Chain g.A.Code self in
    (λ ok. sound_parts g.H.Chain g.A.Code self.chain stages (none_from_ok due c.check_parts.result is ok), λ s. ok_from_none due c.check_parts.result is (none_refused g.H.Chain g.A.Code self.chain stages s))

pub returns-clause-lawful : goal.returns-clause-lawful
returns-clause-lawful g c =
    let self = c.args.self.now in
    let is = subst (λ xs. c.check_parts.result ≡ checked (parts_refusal g.H.Chain g.A.Code self.chain xs)) c.codes.ensures c.check_parts.ensures in
    on_ok (pile_refusal g.H.Chain g.A.Code self) (Lawful (pile_model g.H.Chain g.A.Code self)) c.check_parts.result is
    (λ none. parts_lawful g.H.Chain.model g.H.Chain.refusal g.A.Code.model g.A.Code.refusal g.met.H.Chain.lawful g.met.A.Code.lawful self.chain (stages_of g.H.Chain g.A.Code self) none)
