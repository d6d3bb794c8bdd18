use Rattle.std.proofs.Common.{length, refl, arith}
use Rattle.std.proofs.lemmas.List.{get_or-replicate}
use Rattle.field_laws.specs.Fields.{FieldModel, FieldLaws}
use Rattle.reed_solomon_laws.proofs.Nearest.{interpolated_first}
use Rattle.reed_solomon_laws.proofs.Numbers.{size_most}
use Rattle.reed_solomon.proofs.codewords.write_codeword.Goals as goal

pub returns : goal.returns
returns g c =
    let f : FieldModel = g.F.Field.model c.args.field.now in
    let laws : FieldLaws f = g.met.F.Field.lawful c.args.field.now c.requires.0 in
    let kind = c.requires.1.0.0 in
    interpolated_first f laws (length c.args.word.now) (length c.args.message.now) kind c.args.message.now _ c.through.new.v c.through.new.p c.through.result
    c.through.auto.v (refl, c.requires.1.0.1) (λ j l. get_or-replicate 256 j 0 0 (omega (arith, kind.0, kind.2, size_most f laws))) c.through.ensures
