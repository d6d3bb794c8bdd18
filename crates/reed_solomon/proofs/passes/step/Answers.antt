use Rattle.std.proofs.Common.{◌≡◌, ℕ, ◌<◌, sym, ap, ◌∙◌}
use Rattle.field_laws.specs.Fields.{FieldModel, FieldLaws, size}
use Rattle.field_laws.proofs.Elements.{zero_of}
use Rattle.reed_solomon.proofs.passes.step.Goals as goal

-- zero times an element
product_zero : (f : FieldModel) (laws : FieldLaws f) (a : ℕ) → a < size f → f.product a 0 ≡ 0
product_zero f laws a l =
    let none : 0 < size f = (zero_of f laws).1 in
    ap (f.product a) (sym (laws.sum_zero 0 none)) ∙ laws.distributes a 0 0 l none none ∙ laws.sum_self (f.product a 0) (laws.product_below a 0 l none)

pub returns-then-p-eq0 : goal.returns-then-p-eq0
returns-then-p-eq0 g c =
    let f : FieldModel = g.F.Field.model c.args.field.now in
    let laws : FieldLaws f = g.met.F.Field.lawful c.args.field.now c.requires.0 in
    let v = c.args.v in
    let z = c.if-p-eq0.true in (
      sym (ap (λ (p : ℕ). f.sum v (f.product c.args.c p)) z ∙ ap (f.sum v) (product_zero f laws c.args.c c.requires.1.0) ∙ laws.sum_zero v c.requires.1.1.1.0),
      z ∙ sym (ap (f.product c.args.r) z ∙ product_zero f laws c.args.r c.requires.1.1.0),
    )
