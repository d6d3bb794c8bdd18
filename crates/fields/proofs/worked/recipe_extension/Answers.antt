use Rattle.fields.proofs.Extending.{made}
use Rattle.fields.proofs.worked.recipe_extension.Goals as goal

pub returns : goal.returns
returns c =
    let constant = c.in_ok-c.ensures in
    made c.args.width c.in_ok-c.c c.extension_over.result constant.0 constant.1 c.extension_over.ensures
