use Rattle.std.proofs.Common.{◌≡◌, ◌^◌, ap, arith}
use Rattle.field_laws.specs.Fields.{size}
use Rattle.field_laws.specs.Extensions.{extension}
use Rattle.field_laws.specs.Polynomials.{polynomial}
use Rattle.fields.proofs.Refusing.{none_refused}
use Rattle.recipe_piles.proofs.codes_made.extension_code.Goals as goal

pub returns-in_err-code : goal.returns-in_err-code
returns-in_err-code c =
    let field = c.in_ok-field.field in
    let is = c.in_ok-field.ensures.1 in
    let wide : 2 ^ c.args.width ≡ size (extension (polynomial field.base.width) field.c) = ap (λ n. 2 ^ n) is.half_width in
    absurd (c.in_err-code.ensures.2 (none_refused (polynomial field.base.width) field.c is.extends) (omega (arith, wide, c.requires.1.0), c.requires.1.1, c.requires.1.2))
