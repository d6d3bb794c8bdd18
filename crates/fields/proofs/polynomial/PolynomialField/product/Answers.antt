use Rattle.std.proofs.Common.{◌^◌, ◌<◌, subst, sym}
use Rattle.field_laws.specs.Polynomials.{Reduced}
use Rattle.field_laws.proofs.Carryless.{one_reduced, reduced}
use Rattle.fields.proofs.Steps.{two_below}
use Rattle.fields.proofs.polynomial.PolynomialField.product.Goals as goal

pub returns-in_err-elements-clause-single : goal.returns-in_err-elements-clause-single
returns-in_err-elements-clause-single c =
    let range = c.args.self.now.range in λ p q. one_reduced c.args.self.now.width c.args.a c.args.b p q range.0 range.1

pub returns-clause-reduced : goal.returns-clause-reduced
returns-clause-reduced c =
    let m = c.args.self.now.width in
    let range = c.args.self.now.range in
    let below : c.args.a < 2 ^ m = rw (← c.size.ensures) (two_below c.size.result c.args.a c.args.b c.in_ok-elements.ensures).0 in
    subst (Reduced m c.args.a c.args.b) (sym c.multiply.ensures) (reduced m c.args.a c.args.b range.0 range.1 below)

pub returns-clause-single : goal.returns-clause-single
returns-clause-single c =
    let range = c.args.self.now.range in λ p q. one_reduced c.args.self.now.width c.args.a c.args.b p q range.0 range.1
