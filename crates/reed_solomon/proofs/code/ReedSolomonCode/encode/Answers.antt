use Rattle.std.proofs.Common.{length, ◌∙◌, arith}
use Rattle.field_laws.specs.Fields.{FieldModel, FieldLaws}
use Rattle.codes.proofs.Working.{encode_passes, message_fits}
use Rattle.reed_solomon_laws.specs.Words.{reed_solomon}
use Rattle.reed_solomon_laws.proofs.Numbers.{size_most}
use Rattle.reed_solomon.proofs.Making.{sound_of}
use Rattle.reed_solomon.proofs.Values.{begins, is_codeword, same_code}
use Rattle.reed_solomon.proofs.code.ReedSolomonCode.encode.Goals as goal

pub write_codeword-requires : goal.write_codeword-requires
write_codeword-requires g c =
    let self = c.args.self.now in
    let f : FieldModel = g.F.Field.model self.field in
    let s = sound_of (g.F.Field.refusal self.field) f self.len self.message_len c.in_ok-check.ensures.refused in
    let laws : FieldLaws f = g.met.F.Field.lawful self.field s.0 in
    let model = reed_solomon f self.len self.message_len in
    let none = encode_passes model c.parameters.ensures c.args.message.now c.args.word.now c.in_ok-check_encode.ensures in
    let fit = message_fits model c.args.message.now c.args.word.now none in
    (s.0, (((omega (arith, s.1.0, fit.1), omega (arith, s.1.1, fit.0.0), omega (arith, s.1.2, fit.0.0, fit.1)), fit.0.1), omega (arith, s.1.0, fit.1, size_most f laws)))

pub returns-clause-values : goal.returns-clause-values
returns-clause-values g c =
    let self = c.args.self.now in
    let f : FieldModel = g.F.Field.model self.field in
    let s = sound_of (g.F.Field.refusal self.field) f self.len self.message_len c.in_ok-check.ensures.refused in
    let laws : FieldLaws f = g.met.F.Field.lawful self.field s.0 in
    let n = self.len in
    let k = self.message_len in
    let message = c.args.message.now in
    let word = c.args.word.now in
    let model = reed_solomon f n k in
    let none = encode_passes model c.parameters.ensures message word c.in_ok-check_encode.ensures in
    let fit = message_fits model message word none in
    is_codeword f laws n k s.1 message c.write_codeword.new.word fit.0 (c.write_codeword.ensures ∙ same_code f n k (length word) (length message) message fit.1 fit.0.0)

pub returns-clause-begins : goal.returns-clause-begins
returns-clause-begins g c =
    let self = c.args.self.now in
    let f : FieldModel = g.F.Field.model self.field in
    let s = sound_of (g.F.Field.refusal self.field) f self.len self.message_len c.in_ok-check.ensures.refused in
    let laws : FieldLaws f = g.met.F.Field.lawful self.field s.0 in
    let n = self.len in
    let k = self.message_len in
    let message = c.args.message.now in
    let word = c.args.word.now in
    let model = reed_solomon f n k in
    let none = encode_passes model c.parameters.ensures message word c.in_ok-check_encode.ensures in
    let fit = message_fits model message word none in
    begins f laws n k s.1 message c.write_codeword.new.word fit.0 (c.write_codeword.ensures ∙ same_code f n k (length word) (length message) message fit.1 fit.0.0)
