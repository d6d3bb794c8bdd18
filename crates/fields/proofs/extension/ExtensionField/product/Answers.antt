use Rattle.fields.proofs.Meaning.{multiplies_below, squares_root, multiplies_root}
use Rattle.fields.proofs.extension.ExtensionField.product.Goals as goal

pub returns-clause-below : goal.returns-clause-below
returns-clause-below g c =
    let self = c.args.self.now in
    multiplies_below (g.F.Field.refusal self.base) (g.F.Field.model self.base) (g.met.F.Field.lawful self.base) self.c c.args.a c.args.b c.multiply.result c.multiply.ensures

pub returns-clause-square : goal.returns-clause-square
returns-clause-square g c =
    let self = c.args.self.now in
    squares_root (g.F.Field.refusal self.base) (g.F.Field.model self.base) (g.met.F.Field.lawful self.base) self.c c.args.a c.args.b c.multiply.result c.multiply.ensures

pub returns-clause-root : goal.returns-clause-root
returns-clause-root g c =
    let self = c.args.self.now in
    multiplies_root (g.F.Field.refusal self.base) (g.F.Field.model self.base) (g.met.F.Field.lawful self.base) self.c c.args.a c.args.b c.multiply.result c.multiply.ensures
