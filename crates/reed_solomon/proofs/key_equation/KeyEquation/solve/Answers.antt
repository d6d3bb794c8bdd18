use Rattle.std.proofs.Common.{◌≡◌, ℕ, ◌+◌, ◌<◌, ◌≤◌, Bool, true, false, leb, List, length, get_or, replicate, sym, refl, ap, ◌∙◌, subst, subst₂, inl, inr, arith}
use Rattle.std.proofs.lemmas.List.{get_or-replicate}
use Rattle.field_laws.specs.Fields.{FieldModel, FieldLaws}
use Rattle.reed_solomon_laws.proofs.Arrays.{Keyed, Located, passes, keyed_at}
use Rattle.std.proofs.lemmas.Bool.{and_from, and_left, and_right, not_from_true, not_from_false, eq-eqb, ne_eqb, cond_both, leb-true, leb-false}
use Rattle.reed_solomon_laws.proofs.Counts.{readable}
use Rattle.reed_solomon_laws.proofs.Keying.{keyed_none, keyed_skip, keyed_first, keyed_second, one_misses, located_first, located_second}
use Rattle.reed_solomon.specs.Passes.{Advanced, Lengths}
use Rattle.reed_solomon.specs.declared.key_equation.Pair.{Pair}
use Rattle.reed_solomon.proofs.key_equation.KeyEquation.solve.Goals as goal
use Rattle.reed_solomon.proofs.key_equation.KeyEquation.solve.Goals.{then-self-x-eq0+then-self-x-ne0+then-advance, then-self-x-eq0+then-self-x-ne0+else-advance, else-self-x-eq0, else-self-x-eq0-via-then-self-x-eq0+else-self-x-ne0, else-self-x-eq0-via-else-self-x-eq0}

passes_here : (marks p : List ℕ) (x : ℕ) → get_or marks x 0 ≡ 0 → (get_or p x 0 ≡ 0 → ⊥) → passes marks p x ≡ true
passes_here marks p x m ne = and_from (readable marks x) _ (eq-eqb (get_or marks x 0) 0 m) (not_from_false _ (ne_eqb (get_or p x 0) 0 ne))

filled : (xs : List ℕ) (m a n : ℕ) → xs ≡ replicate m a → m ≡ n → (j : ℕ) → j < n → get_or xs j 0 ≡ a
filled xs m a n e long j l = ap (λ ys. get_or ys j 0) e ∙ get_or-replicate m j a 0 (omega arith)

pub loop-x-init : goal.loop-x-init
loop-x-init g c =
    let f : FieldModel = g.F.Field.model c.args.self.now.field.now in
    let laws : FieldLaws f = g.met.F.Field.lawful c.args.self.now.field.now c.requires.0 in
    let n = length c.args.self.now.word.now in
    let long = c.requires.1.1 in (
      keyed_none f laws n c.requires.1.0.0 c.args.self.now.word.now c.args.self.now.marks.now c.args.self.now.g.now c.args.self.now.p.now c.fill.new.self c.fill-2.new.self c.fill-3.new.self c.fill-4.new.self
          (filled _ _ 1 n (c.fill.ensures.after (λ y e. e)) long.0) (filled _ _ 0 n (c.fill-2.ensures.after (λ y e. e)) long.1) (filled _ _ 0 n (c.fill-3.ensures.after (λ y e. e)) long.2) (filled _ _ 1 n (c.fill-4.ensures.after (λ y e. e)) long.3),
      omega arith,
      (c.fill.ensures.len ∙ long.0, c.fill-2.ensures.len ∙ long.1, c.fill-3.ensures.len ∙ long.2, c.fill-4.ensures.len ∙ long.3),
    )

pub loop-x-preserved : goal.loop-x-preserved
loop-x-preserved g c =
    let f : FieldModel = g.F.Field.model c.args.self.now.field.now in
    let laws : FieldLaws f = g.met.F.Field.lawful c.args.self.now.field.now c.requires.0 in
    let word = c.args.self.now.word.now in
    let marks = c.args.self.now.marks.now in
    let gs = c.args.self.now.g.now in
    let p = c.args.self.now.p.now in
    let n = length word in
    let x = c.loop-x.x in
    let q₀ = c.loop-x.first.q.now in
    let e₀ = c.loop-x.first.e.now in
    let q₁ = c.loop-x.second.q.now in
    let e₁ = c.loop-x.second.e.now in
    let b₀ = c.loop-x.first.bound in
    let b₁ = c.loop-x.second.bound in
    let s = c.loop-x.invariant.0 in
    let below = c.requires.1.0.2 in
    let l0 : length q₀ ≡ n = c.loop-x.invariant.2.0 in
    let Holds : Pair → Pair → Type 0 = λ a b.
    Keyed f n word marks gs p (x + 1) a.q.now a.e.now b.q.now b.e.now a.bound b.bound × (a.bound + b.bound ≤ 1 + (x + 1)) × Lengths n a.q.now a.e.now b.q.now b.e.now in
    elim c.if-self-x-eq0.branch [
      | then-self-x-eq0+then-self-x-ne0+then-advance w ↦
          let here = passes_here marks p x w.if-self-x-eq0.true w.if-self-x-ne0.true in
          let u = w.advance.new.first in
          let v = w.advance.new.second in
          let a : Advanced f n x w.quotient-t.result (b₀, b₁) q₀ e₀ q₁ e₁ u.q.now u.e.now v.q.now v.e.now true =
          subst₂ (λ (m : ℕ) (r : Bool). Advanced f m x w.quotient-t.result (b₀, b₁) q₀ e₀ q₁ e₁ u.q.now u.e.now v.q.now v.e.now r) l0 w.if-advance.true w.advance.ensures.advanced in
          subst₂ Holds (sym w.first-is) (sym w.second-is) (
            keyed_at refl refl refl refl (ap (λ (b : ℕ). b + 1) w.advance.ensures.bounds.0) w.advance.ensures.bounds.1
                (keyed_first f laws n c.requires.1.0.0 word marks gs p x q₀ e₀ q₁ e₁ b₀ b₁ s c.loop-x-test.true below.0 below.1 below.2 w.quotient-t.result w.quotient-t.ensures.0 here _ _ _ _ a.0 a.1 a.2),
            omega (arith, w.advance.ensures.bounds.0, w.advance.ensures.bounds.1, c.loop-x.invariant.1),
            subst (λ (m : ℕ). Lengths m u.q.now u.e.now v.q.now v.e.now) l0 w.advance.ensures.lengths,
          )
      | then-self-x-eq0+then-self-x-ne0+else-advance w ↦
          let here = passes_here marks p x w.if-self-x-eq0.true w.if-self-x-ne0.true in
          let u = w.advance.new.first in
          let v = w.advance.new.second in
          let a : Advanced f n x w.quotient-t.result (b₀, b₁) q₀ e₀ q₁ e₁ u.q.now u.e.now v.q.now v.e.now false =
          subst₂ (λ (m : ℕ) (r : Bool). Advanced f m x w.quotient-t.result (b₀, b₁) q₀ e₀ q₁ e₁ u.q.now u.e.now v.q.now v.e.now r) l0 w.if-advance.false w.advance.ensures.advanced in
          subst₂ Holds (sym w.first-is) (sym w.second-is) (
            keyed_at refl refl refl refl w.advance.ensures.bounds.0 (ap (λ (b : ℕ). b + 1) w.advance.ensures.bounds.1)
                (keyed_second f laws n c.requires.1.0.0 word marks gs p x q₀ e₀ q₁ e₁ b₀ b₁ s c.loop-x-test.true below.0 below.1 below.2 w.quotient-t.result w.quotient-t.ensures.0 here _ _ _ _
                (elim a.0 [ inl z ↦ one_misses f laws n c.requires.1.0.0 word marks gs p x q₀ e₀ q₁ e₁ b₀ b₁ s c.loop-x-test.true below.0 below.1 below.2 w.quotient-t.result w.quotient-t.ensures.0 here z | inr h ↦ h.0 ])
                (elim a.0 [ inl z ↦ inl z | inr h ↦ inr h.1 ]) a.1),
            omega (arith, w.advance.ensures.bounds.0, w.advance.ensures.bounds.1, c.loop-x.invariant.1),
            subst (λ (m : ℕ). Lengths m u.q.now u.e.now v.q.now v.e.now) l0 w.advance.ensures.lengths,
          )
      | else-self-x-eq0 w ↦ subst₂ Holds (sym w.first-is) (sym w.second-is) (
        keyed_skip f laws n c.requires.1.0.0 word marks gs p x q₀ e₀ q₁ e₁ b₀ b₁ s
            (elim w.else-self-x-eq0.branch [ else-self-x-eq0-via-then-self-x-eq0+else-self-x-ne0 v ↦ and_right (readable marks x) _ (not_from_true _ (eq-eqb (get_or p x 0) 0 v.if-self-x-ne0.false)) | else-self-x-eq0-via-else-self-x-eq0 v ↦ and_left _ _ (ne_eqb (get_or marks x 0) 0 v.if-self-x-eq0.false) ]),
        omega (arith, c.loop-x.invariant.1),
        c.loop-x.invariant.2,
      )
    ]

pub returns-clause-located : goal.returns-clause-located
returns-clause-located g c =
    let f : FieldModel = g.F.Field.model c.args.self.now.field.now in
    let n = length c.args.self.now.word.now in
    let first = c.loop-x.first in
    let second = c.loop-x.second in
    let done : c.loop-x.x ≡ n = omega (arith, c.loop-x-test.false, c.loop-x.auto.x-end) in
    let s = subst (λ (m : ℕ). Keyed f n c.args.self.now.word.now c.args.self.now.marks.now c.args.self.now.g.now c.args.self.now.p.now m first.q.now first.e.now second.q.now second.e.now first.bound second.bound) done c.loop-x.invariant.0 in
    cond_both (leb first.bound second.bound) first.e.now second.e.now (λ (e : List ℕ). Located f n c.args.self.now.word.now c.args.self.now.marks.now c.args.self.now.g.now c.args.self.now.p.now e)
    (λ h. located_first f n c.args.self.now.word.now c.args.self.now.marks.now c.args.self.now.g.now c.args.self.now.p.now first.q.now first.e.now second.q.now second.e.now first.bound second.bound s (leb-true _ _ h))
    (λ h. located_second f n c.args.self.now.word.now c.args.self.now.marks.now c.args.self.now.g.now c.args.self.now.p.now first.q.now first.e.now second.q.now second.e.now first.bound second.bound s (leb-false _ _ h))
