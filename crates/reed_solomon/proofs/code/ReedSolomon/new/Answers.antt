use Rattle.std.proofs.Common.{refl}
use Rattle.field_laws.specs.Fields.{FieldModel, FieldLaws}
use Rattle.reed_solomon_laws.proofs.Laws.{systematic}
use Rattle.reed_solomon.proofs.Making.{sound_of}
use Rattle.reed_solomon.proofs.code.ReedSolomon.new.Goals as goal

pub returns : goal.returns
returns g c =
    let f : FieldModel = g.F.Field.model c.args.field in
    let fits = sound_of (g.F.Field.refusal c.args.field) f c.args.len c.args.message_len c.in_ok-check_kind.ensures.refused in
    let laws : FieldLaws f = g.met.F.Field.lawful c.args.field fits.0 in
    (fits, (refl, refl, refl), systematic f laws c.args.len c.args.message_len fits.1)
