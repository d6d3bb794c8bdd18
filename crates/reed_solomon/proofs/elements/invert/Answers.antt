use Rattle.std.proofs.Common.{◌≡◌, Some, sym, refl, ◌∙◌}
use Rattle.field_laws.specs.Fields.{FieldModel, FieldLaws, size}
use Rattle.field_laws.proofs.Reciprocals.{found_below}
use Rattle.fields.proofs.Steps.{ok_one, same_value}
use Rattle.reed_solomon.proofs.elements.invert.Goals as goal

pub unwrap-requires-2 : goal.unwrap-requires-2
unwrap-requires-2 g c =
    let f : FieldModel = g.F.Field.model c.args.field.now in
    let laws : FieldLaws f = g.met.F.Field.lawful c.args.field.now c.requires.0 in
    let a = c.args.a in
    let t = laws.some_of_others a c.requires.1.0 c.requires.1.1 in
    let is : c.unwrap.result ≡ Some t.0 = same_value c.unwrap.ensures (c.inverse.ensures c.requires.0 ∙ ok_one (size f) a (f.reciprocal a) c.requires.1.0) ∙ t.2 in
    rw is refl

pub returns : goal.returns
returns g c =
    let f : FieldModel = g.F.Field.model c.args.field.now in
    let laws : FieldLaws f = g.met.F.Field.lawful c.args.field.now c.requires.0 in
    let a = c.args.a in
    let is : f.reciprocal a ≡ Some c.unwrap-2.result = sym (same_value c.unwrap.ensures (c.inverse.ensures c.requires.0 ∙ ok_one (size f) a (f.reciprocal a) c.requires.1.0)) ∙ c.unwrap-2.ensures in
    (is, found_below f laws a c.unwrap-2.result c.requires.1.0 is)
