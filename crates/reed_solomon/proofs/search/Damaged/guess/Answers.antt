use Rattle.std.proofs.Common.{◌≡◌, ℕ, length, ◌∙◌, subst, arith}
use Rattle.field_laws.specs.Fields.{FieldModel, FieldLaws}
use Rattle.fields.proofs.Steps.{same_value, never}
use Rattle.reed_solomon_laws.proofs.Arrays.{Interpolated}
use Rattle.reed_solomon_laws.proofs.Counts.{readable, count_early}
use Rattle.reed_solomon_laws.proofs.Numbers.{size_most}
use Rattle.reed_solomon.proofs.Outcomes.{bytes, measured}
use Rattle.reed_solomon.proofs.search.Damaged.guess.Goals as goal

pub returns-in_err-near : goal.returns-in_err-near
returns-in_err-near g c =
    let f : FieldModel = g.F.Field.model c.args.self.now.field.now in
    let laws : FieldLaws f = g.met.F.Field.lawful c.args.self.now.field.now c.requires.0 in
    let word = c.args.self.now.word.now in
    let marks = c.args.self.now.marks.now in
    let n = length word in
    let v = c.through-taken.new.v in
    let received = c.requires.1.0 in
    let long : length v ≡ n = c.through-taken.auto.v ∙ c.requires.1.1.1 in
    let s = subst (λ (m : ℕ). Interpolated f m c.args.self.now.k word c.args.skip.now n v c.through-taken.new.p c.through-taken.result) c.requires.1.1.1 c.through-taken.ensures in
    never c.in_err-near.was (c.harm.ensures ∙ measured word marks v (omega (arith, received.0.0, size_most f laws)) received.1 long received.3 (bytes f laws n word (omega arith) received.2) (bytes f laws n v long s.v_below))

pub returns : goal.returns
returns g c =
    let f : FieldModel = g.F.Field.model c.args.self.now.field.now in
    let laws : FieldLaws f = g.met.F.Field.lawful c.args.self.now.field.now c.requires.0 in
    let word = c.args.self.now.word.now in
    let marks = c.args.self.now.marks.now in
    let n = length word in
    let v = c.through-taken.new.v in
    let received = c.requires.1.0 in
    let long : length v ≡ n = c.through-taken.auto.v ∙ c.requires.1.1.1 in
    let s = subst (λ (m : ℕ). Interpolated f m c.args.self.now.k word c.args.skip.now n v c.through-taken.new.p c.through-taken.result) c.requires.1.1.1 c.through-taken.ensures in (
      c.through-taken.result,
      s,
      (
        omega (arith, s.taken_is, count_early (readable c.args.skip.now) c.args.self.now.k n, c.if-taken-self.false),
        same_value c.in_ok-near.was (c.harm.ensures ∙ measured word marks v (omega (arith, received.0.0, size_most f laws)) received.1 long received.3 (bytes f laws n word (omega arith) received.2) (bytes f laws n v long s.v_below)),
        omega (arith, c.in_ok-check_near.ensures, c.distance.ensures),
      ),
    )
