use Rattle.fields.proofs.Meaning.{sums_below, sums_parts}
use Rattle.fields.proofs.extension.ExtensionField.sum.Goals as goal

pub returns-clause-below : goal.returns-clause-below
returns-clause-below g c =
    let self = c.args.self.now in
    sums_below (g.F.Field.refusal self.base) (g.F.Field.model self.base) (g.met.F.Field.lawful self.base) self.c c.args.a c.args.b c.add.result c.add.ensures

pub returns-clause-parts : goal.returns-clause-parts
returns-clause-parts g c =
    let self = c.args.self.now in
    sums_parts (g.F.Field.refusal self.base) (g.F.Field.model self.base) (g.met.F.Field.lawful self.base) self.c c.args.a c.args.b c.add.result c.add.ensures
