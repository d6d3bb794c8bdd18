use Rattle.field_laws.specs.Polynomials.{polynomial}
use Rattle.fields.proofs.Extending.{recipe_product}
use Rattle.fields.proofs.Refusing.{none_refused}
use Rattle.fields.proofs.worked.extension_product.Goals as goal

pub returns : goal.returns
returns c =
    let field = c.in_ok-field.field in
    let made = c.in_ok-field.ensures.1 in
    recipe_product c.args.width field.base.width field.c c.args.a c.args.b c.product.result made (c.product.ensures.field (none_refused (polynomial field.base.width) field.c made.extends))
