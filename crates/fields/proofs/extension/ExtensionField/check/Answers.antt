use Rattle.words.proofs.Rises.{checked_ok}
use Rattle.fields.proofs.Refusing.{tested_above}
use Rattle.fields.proofs.extension.ExtensionField.check.Goals as goal

pub returns-clause-refused : goal.returns-clause-refused
returns-clause-refused g c =
    let self = c.args.self.now in
    let f = g.F.Field.model self.base in
    let parts = c.in_ok-below.ensures.parts in
    tested_above f self.c (g.F.Field.refusal self.base) c.check-2.result (checked_ok _ c.in_ok-check.ensures.refused) (rw (← parts.0, ← parts.1) c.check-2.ensures)
