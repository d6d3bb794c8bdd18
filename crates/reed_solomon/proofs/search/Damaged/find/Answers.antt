use Rattle.std.proofs.Common.{◌≡◌, length, ◌∙◌}
use Rattle.field_laws.specs.Fields.{FieldModel, FieldLaws}
use Rattle.reed_solomon.proofs.Outcomes.{found_codeword, outcome}
use Rattle.reed_solomon.proofs.search.Damaged.find.Goals as goal

pub returns-in-Ok : goal.returns-in-Ok
returns-in-Ok g c =
    let f : FieldModel = g.F.Field.model c.args.self.now.field.now in
    let laws : FieldLaws f = g.met.F.Field.lawful c.args.self.now.field.now c.requires.0 in
    found_codeword f laws c.args.self.now.k c.args.self.now.word.now c.args.self.now.marks.now c.requires.1.0 c.args.self.now.marks.now c.guess.new.found c.guess.new.product c.in-Ok.near (c.guess.auto.found ∙ c.requires.1.1.0) c.in-Ok.ensures

pub returns : goal.returns
returns g c =
    let f : FieldModel = g.F.Field.model c.args.self.now.field.now in
    let laws : FieldLaws f = g.met.F.Field.lawful c.args.self.now.field.now c.requires.0 in
    let long : length c.guess.new.found ≡ length c.args.self.now.word.now = c.guess.auto.found ∙ c.requires.1.1.0 in
    outcome f laws c.args.self.now.k c.args.self.now.word.now c.args.self.now.marks.now c.requires.1.0 c.guess.new.found c.guess.new.product c.locate.new.skip c.guess-2.new.found c.guess-2.new.product c.guess.result c.guess-2.result
    (c.guess-2.auto.found ∙ long) c.guess.ensures c.locate.ensures c.guess-2.ensures
