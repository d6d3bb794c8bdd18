use Rattle.std.proofs.Common.{ℕ, Some, Ok, sym, ap, ◌∙◌, ap₂}
use Rattle.field_laws.specs.Fields.{FieldModel, FieldLaws}
use Rattle.field_laws.specs.Extensions.{joined_reciprocal, norm}
use Rattle.fields.proofs.Steps.{same_value, never, part_of, inverse_found}
use Rattle.fields.proofs.below.Below.inverse.Goals as goal

pub returns-in_err-inverse : goal.returns-in_err-inverse
returns-in_err-inverse g c = λ s hc hw ha.
    let f : FieldModel = g.F.Field.model c.args.self.now.field.now in
    let laws : FieldLaws f = g.met.F.Field.lawful c.args.self.now.field.now s in
    let x = part_of c.args.self.now.width f.width c.args.a c.split-x.result hw ha (c.split-x.ensures.value, c.split-x.ensures.bounds) in
    let found = inverse_found f laws _ c.in_ok-n.n c.in-Some.i c.in_ok-i.field-0 c.norm.result c.inverse.result
    c.in_ok-n.was (c.norm.ensures s hc x.low_below x.high_below) c.in_ok-i.was (c.inverse.ensures s) c.in-Some.is in
    never c.in_err-inverse.was (c.scaled.ensures s hw found.1 x.low_below x.high_below)

pub returns : goal.returns
returns g c = λ s hc hw ha.
    let f : FieldModel = g.F.Field.model c.args.self.now.field.now in
    let laws : FieldLaws f = g.met.F.Field.lawful c.args.self.now.field.now s in
    let x = part_of c.args.self.now.width f.width c.args.a c.split-x.result hw ha (c.split-x.ensures.value, c.split-x.ensures.bounds) in
    let found = inverse_found f laws _ c.in_ok-n.n c.in-Some.i c.in_ok-i.field-0 c.norm.result c.inverse.result
    c.in_ok-n.was (c.norm.ensures s hc x.low_below x.high_below) c.in_ok-i.was (c.inverse.ensures s) c.in-Some.is in
    let value = same_value c.in_ok-inverse.was (c.scaled.ensures s hw found.1 x.low_below x.high_below) in
    ap (λ (n : ℕ). Ok (Some n)) value
    ∙ ap (λ o. Ok (joined_reciprocal f c.split-x.result.low c.split-x.result.high o)) (sym found.0)
    ∙ ap₂ (λ (a b : ℕ). Ok (joined_reciprocal f a b (f.reciprocal (norm f c.args.self.now.c a b)))) x.low_is x.high_is
