use Rattle.std.proofs.Common.{◌≡◌, ℕ, ◌≤◌, length, get_or, sym, ap, ◌∙◌, subst, arith}
use Rattle.std.proofs.lemmas.List.{get_or-replicate}
use Rattle.field_laws.specs.Fields.{FieldModel, FieldLaws, size}
use Rattle.reed_solomon_laws.proofs.Arrays.{Below, Taken, interpolated_none, interpolated_at, fresh, passed_over, chosen_more}
use Rattle.reed_solomon.proofs.interpolation.through.Goals as goal
use Rattle.reed_solomon.proofs.interpolation.through.Goals.{then-is_chosen, else-is_chosen}

pub loop-x-init : goal.loop-x-init
loop-x-init g c =
    let f : FieldModel = g.F.Field.model c.args.field.now in
    let laws : FieldLaws f = g.met.F.Field.lawful c.args.field.now c.requires.0 in
    let n = length c.fill.new.self in
    let le : n ≤ size f = omega (arith, c.fill.ensures.len, c.requires.1.0) in (
      interpolated_none f laws n c.args.wanted le c.args.symbols.now c.args.skip.now c.fill.new.self c.fill-2.new.self
          (λ j l. ap (λ xs. get_or xs j 0) (c.fill.ensures.after (λ y e. e)) ∙ get_or-replicate _ j 0 0 (omega (arith, c.fill.ensures.len)))
          (λ j l. ap (λ xs. get_or xs j 0) (c.fill-2.ensures.after (λ y e. e)) ∙ get_or-replicate _ j 1 0 (omega (arith, c.requires.1.3, c.fill.ensures.len))),
      omega arith,
    )

pub take_place-requires : goal.take_place-requires
take_place-requires g c =
    let f : FieldModel = g.F.Field.model c.args.field.now in
    let laws : FieldLaws f = g.met.F.Field.lawful c.args.field.now c.requires.0 in
    let n = length c.fill.new.self in
    let le : n ≤ size f = omega (arith, c.fill.ensures.len, c.requires.1.0) in
    let x = c.loop-x.x in
    let long-p : n ≡ length c.loop-x.p = omega (arith, c.loop-x.auto.p, c.fill-2.ensures.len, c.requires.1.3, c.fill.ensures.len) in
    let long-v : n ≡ length c.loop-x.v = omega (arith, c.loop-x.auto.v, c.fill.ensures.len) in
    let s = c.loop-x.invariant.0 in (
      c.requires.0,
      (
        omega (arith, c.loop-x-test.true, c.requires.1.1, c.fill.ensures.len),
        (
          omega (arith, le, long-p),
          (
            c.requires.1.4 x c.loop-x-test.true,
            (
              (sym long-v ∙ long-p, subst (λ (m : ℕ). Below f m c.loop-x.p) long-p s.p_below, subst (λ (m : ℕ). Below f m c.loop-x.v) long-p s.v_below),
              fresh f laws n c.args.wanted le c.args.symbols.now c.args.skip.now x c.loop-x.v c.loop-x.p c.loop-x.taken s (omega (arith, c.loop-x-test.true, c.requires.1.1, c.fill.ensures.len)),
            ),
          ),
        ),
      ),
    )

pub loop-x-preserved : goal.loop-x-preserved
loop-x-preserved g c =
    let f : FieldModel = g.F.Field.model c.args.field.now in
    let laws : FieldLaws f = g.met.F.Field.lawful c.args.field.now c.requires.0 in
    let n = length c.fill.new.self in
    let le : n ≤ size f = omega (arith, c.fill.ensures.len, c.requires.1.0) in
    let x = c.loop-x.x in
    let s = c.loop-x.invariant.0 in
    let long-p : length c.loop-x.p ≡ n = omega (arith, c.loop-x.auto.p, c.fill-2.ensures.len, c.requires.1.3, c.fill.ensures.len) in
    elim c.if-is_chosen.branch [
      | then-is_chosen w ↦
          let done = subst (λ (m : ℕ). Taken f m x (get_or c.args.symbols.now x 0) c.loop-x.v c.loop-x.p w.take_place.new.v w.take_place.new.p) long-p w.take_place.ensures in (
            interpolated_at w.v-is w.p-is w.taken-is
                (chosen_more f laws n c.args.wanted le c.args.symbols.now c.args.skip.now x c.loop-x.v c.loop-x.p c.loop-x.taken s w.take_place.new.v w.take_place.new.p
                (omega (arith, c.loop-x-test.true, c.requires.1.1, c.fill.ensures.len)) (c.requires.1.4 x c.loop-x-test.true) (sym c.is_chosen.ensures ∙ w.if-is_chosen.true) done),
            omega (arith, w.taken-is, c.loop-x.invariant.1),
          )
      | else-is_chosen w ↦ (
        interpolated_at w.v-is w.p-is w.taken-is
            (passed_over f laws n c.args.wanted le c.args.symbols.now c.args.skip.now x c.loop-x.v c.loop-x.p c.loop-x.taken s (sym c.is_chosen.ensures ∙ w.if-is_chosen.false)),
        omega (arith, w.taken-is, c.loop-x.invariant.1),
      )
    ]
