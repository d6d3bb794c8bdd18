use Rattle.std.proofs.Common.{◌<◌, sym, ◌∙◌, arith}
use Rattle.std.proofs.ByRecursion.{All-get_or}
use Rattle.field_laws.specs.Fields.{FieldModel, FieldLaws, size}
use Rattle.codes.proofs.Working.{correct_passes, damage_fits}
use Rattle.reed_solomon_laws.specs.Words.{reed_solomon}
use Rattle.reed_solomon_laws.proofs.Numbers.{size_most}
use Rattle.reed_solomon.proofs.Outcomes.{corrects}
use Rattle.reed_solomon.proofs.Making.{sound_of}
use Rattle.reed_solomon.proofs.Values.{placed}
use Rattle.reed_solomon.proofs.code.ReedSolomonCode.correct.Goals as goal

pub replace-requires : goal.replace-requires
replace-requires g c =
    let self = c.args.self.now in
    let f : FieldModel = g.F.Field.model self.field in
    let s = sound_of (g.F.Field.refusal self.field) f self.len self.message_len c.in_ok-check.ensures.refused in
    let laws : FieldLaws f = g.met.F.Field.lawful self.field s.0 in
    let word = c.args.word.now in
    let marks = c.args.marks.now in
    let model = reed_solomon f self.len self.message_len in
    let none = correct_passes model c.parameters.ensures word marks c.in_ok-check_correct.ensures in
    let fit = damage_fits model word marks none in
    (s.0, (((omega (arith, s.1.0, fit.0.0), s.1.1, omega (arith, s.1.2, fit.0.0)), fit.1.0 ∙ sym fit.0.0, (λ j l. All-get_or (λ x. x < size f) word j 0 l fit.0.1), fit.1.1), omega (arith, s.1.0, fit.0.0, size_most f laws)))

pub returns-clause-sound : goal.returns-clause-sound
returns-clause-sound g c =
    let self = c.args.self.now in
    let f : FieldModel = g.F.Field.model self.field in
    let s = sound_of (g.F.Field.refusal self.field) f self.len self.message_len c.in_ok-check.ensures.refused in
    let laws : FieldLaws f = g.met.F.Field.lawful self.field s.0 in
    let word = c.args.word.now in
    let marks = c.args.marks.now in
    let model = reed_solomon f self.len self.message_len in
    let none = correct_passes model c.parameters.ensures word marks c.in_ok-check_correct.ensures in
    let fit = damage_fits model word marks none in
    λ _. corrects f laws self.len self.message_len s.1 word marks fit.0.0 none c.replace.new.word c.replace.result c.replace.ensures

pub returns-clause-values : goal.returns-clause-values
returns-clause-values g c =
    let self = c.args.self.now in
    let f : FieldModel = g.F.Field.model self.field in
    let s = sound_of (g.F.Field.refusal self.field) f self.len self.message_len c.in_ok-check.ensures.refused in
    let word = c.args.word.now in
    let marks = c.args.marks.now in
    let model = reed_solomon f self.len self.message_len in
    let none = correct_passes model c.parameters.ensures word marks c.in_ok-check_correct.ensures in
    let fit = damage_fits model word marks none in
    placed f self.len self.message_len word marks c.replace.new.word c.replace.result fit.0.0 c.replace.ensures
