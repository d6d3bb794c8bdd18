use Rattle.std.proofs.Common.{◌≡◌, ℕ, ◌<◌, List, length, take, Ok, sym, ◌∙◌, subst, arith}
use Rattle.std.proofs.ByRecursion.{All-take}
use Rattle.std.proofs.lemmas.List.{length-take-le}
use Rattle.words.proofs.Rises.{raised}
use Rattle.field_laws.specs.Fields.{FieldModel, FieldLaws, size}
use Rattle.codes.specs.Model.{Symbols}
use Rattle.codes.specs.Promises.{Recovered}
use Rattle.codes.proofs.Working.{message_of_passes, word_fits, recovered, unrecovered}
use Rattle.reed_solomon_laws.specs.Words.{reed_solomon}
use Rattle.reed_solomon_laws.proofs.Numbers.{size_most}
use Rattle.reed_solomon.proofs.Outcomes.{begun}
use Rattle.reed_solomon.proofs.Values.{is_codeword, same_code}
use Rattle.reed_solomon.proofs.Making.{sound_of}
use Rattle.reed_solomon.proofs.code.ReedSolomonCode.message_of.Goals as goal

pub recognize-requires : goal.recognize-requires
recognize-requires g c =
    let self = c.args.self.now in
    let f : FieldModel = g.F.Field.model self.field in
    let s = sound_of (g.F.Field.refusal self.field) f self.len self.message_len c.in_ok-check.ensures.refused in
    let laws : FieldLaws f = g.met.F.Field.lawful self.field s.0 in
    let k = self.message_len in
    let word = c.args.word.now in
    let model = reed_solomon f self.len k in
    let none = message_of_passes model c.parameters.ensures c.args.message.now word c.in_ok-check_message_of.ensures in
    let fit = word_fits model c.args.message.now word none in
    let long : length (take k word) ≡ k = length-take-le k word (omega (arith, fit.0.0, s.1.2)) in
    (s.0, (((omega (arith, s.1.0, fit.0.0), omega (arith, s.1.1, long), omega (arith, s.1.2, long, fit.0.0)), All-take (λ x. x < size f) k word fit.0.1), omega (arith, s.1.0, fit.0.0, size_most f laws)))

pub returns-in_err-recognize-clause-sound : goal.returns-in_err-recognize-clause-sound
returns-in_err-recognize-clause-sound g c =
    let self = c.args.self.now in
    let f : FieldModel = g.F.Field.model self.field in
    let s = sound_of (g.F.Field.refusal self.field) f self.len self.message_len c.in_ok-check.ensures.refused in
    let laws : FieldLaws f = g.met.F.Field.lawful self.field s.0 in
    let n = self.len in
    let k = self.message_len in
    let word = c.args.word.now in
    let message = c.args.message.now in
    let model = reed_solomon f n k in
    let none = message_of_passes model c.parameters.ensures message word c.in_ok-check_message_of.ensures in
    let fit = word_fits model message word none in
    let long : length (take k word) ≡ k = length-take-le k word (omega (arith, fit.0.0, s.1.2)) in
    let far : (u : List ℕ) → Symbols f.width k u → (reed_solomon f n k).codeword u ≡ word → ⊥ = λ u su e.
    c.in_err-recognize.ensures.1 (same_code f n k (length word) (length (take k word)) (take k word) fit.0.0 long ∙ begun f laws n k s.1 word u su e) in
    λ _. rw (raised _ c.from_residual-in_err-recognize.ensures.1, c.in_err-recognize.ensures.0) (unrecovered model word message none far)

pub returns-clause-sound : goal.returns-clause-sound
returns-clause-sound g c =
    let self = c.args.self.now in
    let f : FieldModel = g.F.Field.model self.field in
    let s = sound_of (g.F.Field.refusal self.field) f self.len self.message_len c.in_ok-check.ensures.refused in
    let laws : FieldLaws f = g.met.F.Field.lawful self.field s.0 in
    let n = self.len in
    let k = self.message_len in
    let word = c.args.word.now in
    let message = c.args.message.now in
    let model = reed_solomon f n k in
    let none = message_of_passes model c.parameters.ensures message word c.in_ok-check_message_of.ensures in
    let fit = word_fits model message word none in
    let long : length (take k word) ≡ k = length-take-le k word (omega (arith, fit.0.0, s.1.2)) in
    let is : (reed_solomon f n k).codeword (take k word) ≡ word = sym (same_code f n k (length word) (length (take k word)) (take k word) fit.0.0 long) ∙ c.in_ok-recognize.ensures in
    λ _. subst (λ (u : List ℕ). Recovered model word message u (Ok tt)) (sym c.copy_from_slice.ensures.after) (recovered model word message (take k word) none (long, All-take (λ x. x < size f) k word fit.0.1) is)

pub returns-clause-values : goal.returns-clause-values
returns-clause-values g c =
    let self = c.args.self.now in
    let f : FieldModel = g.F.Field.model self.field in
    let s = sound_of (g.F.Field.refusal self.field) f self.len self.message_len c.in_ok-check.ensures.refused in
    let laws : FieldLaws f = g.met.F.Field.lawful self.field s.0 in
    let n = self.len in
    let k = self.message_len in
    let word = c.args.word.now in
    let model = reed_solomon f n k in
    let none = message_of_passes model c.parameters.ensures c.args.message.now word c.in_ok-check_message_of.ensures in
    let fit = word_fits model c.args.message.now word none in
    let long : length (take k word) ≡ k = length-take-le k word (omega (arith, fit.0.0, s.1.2)) in
    let is : (reed_solomon f n k).codeword (take k word) ≡ word = sym (same_code f n k (length word) (length (take k word)) (take k word) fit.0.0 long) ∙ c.in_ok-recognize.ensures in
    is_codeword f laws n k s.1 (take k word) word (long, All-take (λ x. x < size f) k word fit.0.1) (sym is)
