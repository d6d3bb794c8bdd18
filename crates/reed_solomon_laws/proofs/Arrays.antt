-- What the program's arrays hold, in terms of the field's elements, and how each step keeps it. Assumes nothing.
use Rattle.std.proofs.Common.{◌≡◌, ℕ, ◌+◌, ◌*◌, ◌<◌, ◌≤◌, Bool, true, false, not, ◌&&◌, eqb, ltb, List, get_or, Some, sym, refl, ap, ◌∙◌, subst, inl, inr, add-one, arith}
use native.Mathlib.Decide.{dec_lt}
use Rattle.std.proofs.lemmas.Bool.{lt-ltb, le-ltb, true≢false}
use Rattle.algebra.specs.Newton.{Newton}
use Rattle.algebra.specs.Sums.{count}
use Rattle.algebra.proofs.Newton.{newton_same}
use Rattle.field_laws.specs.Fields.{FieldModel, FieldLaws, size}
use Rattle.field_laws.proofs.Elements.{Element, zero_of, one_of, sum_of, product_of, field_of}
use Rattle.reed_solomon_laws.proofs.Codewords.{Elements, numbers_more, numbers_none}
use Rattle.reed_solomon_laws.proofs.Counts.{readable, early, count_early}
use Rattle.reed_solomon_laws.proofs.Numbers.{element, element_zero}
use Rattle.reed_solomon_laws.proofs.State.{State, Solved}

-- the elements that an array holds
abbrev pub at : (f : FieldModel) (laws : FieldLaws f) → List ℕ → ℕ → Element f
at f laws xs j = element f laws (get_or xs j 0)

abbrev pub Below : FieldModel → ℕ → List ℕ → Type 0
Below f n xs = Elements f n (λ j. get_or xs j 0)

-- one of the first so many places before x that are not skipped
abbrev pub Chosen : (skip : List ℕ) (wanted x : ℕ) → ℕ → Type 0
Chosen skip wanted x j = (j < x) × (early (readable skip) wanted j ≡ true)

-- v is the interpolant through the chosen places before x, and p their product
pub record Interpolated (f : FieldModel) (n wanted : ℕ) (symbols skip : List ℕ) (x : ℕ) (v p : List ℕ) (taken : ℕ) : Type 0 where
  pub v_below : Below f n v
  pub p_below : Below f n p
  pub taken_is : taken ≡ count (early (readable skip) wanted) x
  pub newton : (laws : FieldLaws f) → Newton (field_of f laws) (element f laws) n (Chosen skip wanted x) (at f laws symbols) taken (at f laws v) (at f laws p)

-- what one place more does to them
abbrev pub Taken : (f : FieldModel) (n x symbol : ℕ) (v p v' p' : List ℕ) → Type 0
Taken f n x symbol v p v' p' =
    (i : ℕ) × (f.reciprocal (get_or p x 0) ≡ Some i)
    × ((j : ℕ) → j < n → get_or v' j 0 ≡ f.sum (get_or v j 0) (f.product (f.product (f.sum symbol (get_or v x 0)) i) (get_or p j 0)))
    × ((j : ℕ) → j < n → get_or p' j 0 ≡ f.product (f.sum j x) (get_or p j 0))

module _ (f : FieldModel) (laws : FieldLaws f) (n wanted : ℕ) (small : n ≤ size f) (symbols skip : List ℕ) where
  pub interpolated_none : (v p : List ℕ) → ((j : ℕ) → j < n → get_or v j 0 ≡ 0) → ((j : ℕ) → j < n → get_or p j 0 ≡ 1) → Interpolated f n wanted symbols skip 0 v p 0
  interpolated_none v p zeros ones = record {
    v_below = λ j l. subst (λ (a : ℕ). a < size f) (sym (zeros j l)) (zero_of f laws).1;
    p_below = λ j l. subst (λ (a : ℕ). a < size f) (sym (ones j l)) (one_of f laws).1;
    taken_is = refl;
    newton = λ laws. numbers_none f laws n (Chosen skip wanted 0) (λ j. get_or symbols j 0) (λ j. get_or v j 0) (λ j. get_or p j 0) (λ j h. omega (arith, h.0)) zeros ones;
  }

  module _ (x : ℕ) (v p : List ℕ) (taken : ℕ) (s : Interpolated f n wanted symbols skip x v p taken) where
    full_or_not : ltb (count (readable skip) x) wanted ≡ ltb taken wanted
    full_or_not = by (dec_lt taken wanted)
      where
        by : Dec (taken < wanted) → ltb (count (readable skip) x) wanted ≡ ltb taken wanted
        by (yes h) = lt-ltb (count (readable skip) x) wanted (omega (arith, s.taken_is, count_early (readable skip) wanted x)) ∙ sym (lt-ltb taken wanted h)
        by (no h) = le-ltb (count (readable skip) x) wanted (omega (arith, s.taken_is, count_early (readable skip) wanted x)) ∙ sym (le-ltb taken wanted (omega arith))

    -- a place that was not chosen is no root of the product
    pub fresh : x < n → get_or p x 0 ≡ 0 → ⊥
    fresh l e = omega (arith, ((s.newton laws).only x l (ap (element f laws) e ∙ element_zero f laws)).0)

    not_chosen : early (readable skip) wanted x ≡ false → Interpolated f n wanted symbols skip (x + 1) v p taken
    not_chosen no_more = record {
      v_below = s.v_below;
      p_below = s.p_below;
      taken_is = s.taken_is ∙ sym (ap (λ m. count (early (readable skip) wanted) m) (add-one x) ∙ (rw no_more (omega arith)));
      newton = λ laws. newton_same (field_of f laws) (element f laws) n (Chosen skip wanted x) (Chosen skip wanted (x + 1)) (at f laws symbols) taken (at f laws v) (at f laws v) (at f laws p) (at f laws p)
          (λ j l. (λ c. (omega (arith, c.0), c.1), λ c. (earlier j c.0 c.1, c.1))) (λ j l. refl) (λ j l. refl) (s.newton laws);
    }
      where
        earlier : (j : ℕ) → j < x + 1 → early (readable skip) wanted j ≡ true → j < x
        earlier j l e = elim (dec_lt j x) [
          | yes h ↦ h
          | no h ↦ let is : j ≡ x = omega arith in absurd (true≢false (sym e ∙ ap (early (readable skip) wanted) is ∙ no_more))
        ]

    -- a place that is skipped, or comes when there are enough
    pub passed_over : (readable skip x && ltb taken wanted) ≡ false → Interpolated f n wanted symbols skip (x + 1) v p taken
    passed_over h = not_chosen (ap (λ t. readable skip x && t) full_or_not ∙ h)

    pub chosen_more : (v' p' : List ℕ) → x < n → get_or symbols x 0 < size f → (readable skip x && ltb taken wanted) ≡ true → Taken f n x (get_or symbols x 0) v p v' p' → Interpolated f n wanted symbols skip (x + 1) v' p' (taken + 1)
    chosen_more v' p' within symbol chosen done = record {
      v_below = (step laws).1;
      p_below = (step laws).2;
      taken_is = ap (λ m. m + 1) s.taken_is ∙ sym (ap (λ m. count (early (readable skip) wanted) m) (add-one x) ∙ (rw here refl));
      newton = λ laws. (step laws).0;
    }
      where
        here : early (readable skip) wanted x ≡ true
        here = ap (λ t. readable skip x && t) full_or_not ∙ chosen

        step : (laws : FieldLaws f) → Newton (field_of f laws) (element f laws) n (Chosen skip wanted (x + 1)) (at f laws symbols) (taken + 1) (at f laws v') (at f laws p') × Below f n v' × Below f n p'
        step laws = numbers_more f laws n small (Chosen skip wanted x) (Chosen skip wanted (x + 1)) (λ j. get_or symbols j 0) (λ j. get_or v j 0) (λ j. get_or p j 0) (λ j. get_or v' j 0) (λ j. get_or p' j 0) taken x done.0
            within symbol s.v_below s.p_below done.1 done.2 done.3
            (λ j l. (
              elim [ inl c ↦ (omega (arith, c.0), c.1) | inr e ↦ (omega arith, ap (early (readable skip) wanted) e ∙ here) ],
              λ c. elim (dec_lt j x) [ yes b ↦ inl (b, c.1) | no b ↦ inr (omega (arith, c.0)) ],
            ))
            (λ c. omega (arith, c.0)) (s.newton laws)

-- a readable place outside the first choice
abbrev pub passes : (marks p : List ℕ) → ℕ → Bool
passes marks p j = readable marks j && not (eqb (get_or p j 0) 0)

abbrev pub Passed : (marks p : List ℕ) (x : ℕ) → ℕ → Type 0
Passed marks p x j = (j < x) × (passes marks p j ≡ true)

-- by what the error at a place must be divided
abbrev pub target : (f : FieldModel) (laws : FieldLaws f) (word g p : List ℕ) → ℕ → Element f
target f laws word g p j = product_of f laws (sum_of f laws (at f laws word j) (at f laws g j)) ((field_of f laws).inv (at f laws p j))

-- the two pairs after the places before x
pub record Keyed (f : FieldModel) (n : ℕ) (word marks g p : List ℕ) (x : ℕ) (q₀ e₀ q₁ e₁ : List ℕ) (b₀ b₁ : ℕ) : Type 0 where
  pub below₀ : Below f n q₀ × Below f n e₀
  pub below₁ : Below f n q₁ × Below f n e₁
  pub bounds : b₀ + b₁ ≡ 1 + count (passes marks p) x
  pub state : (laws : FieldLaws f) → State (field_of f laws) (element f laws) n (target f laws word g p) (Passed marks p x) (at f laws q₀) (at f laws e₀) (at f laws q₁) (at f laws e₁) b₀ b₁

-- t is the quotient at x
abbrev pub Quotient : (f : FieldModel) (word g p : List ℕ) (x t : ℕ) → Type 0
Quotient f word g p x t = (i : ℕ) × (f.reciprocal (get_or p x 0) ≡ Some i) × (t ≡ f.product (f.sum (get_or word x 0) (get_or g x 0)) i)

abbrev pub miss : (f : FieldModel) (x t : ℕ) (q e : List ℕ) → ℕ
miss f x t q e = f.sum (get_or q x 0) (f.product t (get_or e x 0))

-- the other pair u and w is combined with the pivot q and e, and the pivot is multiplied by X + x
pub record Eliminated (f : FieldModel) (n x a b : ℕ) (q e u w q' e' u' w' : List ℕ) : Type 0 where
  pub u_is : (j : ℕ) → j < n → get_or u' j 0 ≡ f.sum (f.product a (get_or u j 0)) (f.product b (get_or q j 0))
  pub w_is : (j : ℕ) → j < n → get_or w' j 0 ≡ f.sum (f.product a (get_or w j 0)) (f.product b (get_or e j 0))
  pub q_is : (j : ℕ) → j < n → get_or q' j 0 ≡ f.product (f.sum j x) (get_or q j 0)
  pub e_is : (j : ℕ) → j < n → get_or e' j 0 ≡ f.product (f.sum j x) (get_or e j 0)

-- one of the pairs, with the smaller bound b; e is the array that is used
pub record Located (f : FieldModel) (n : ℕ) (word marks g p e : List ℕ) : Type 0 where
  pub e_below : Below f n e
  pub q : List ℕ
  pub b : ℕ
  pub short : 2 * b ≤ 1 + count (passes marks p) n
  pub solved : (laws : FieldLaws f) → Solved (field_of f laws) (element f laws) n (target f laws word g p) (Passed marks p n) (at f laws q) (at f laws e) b

-- the same arrays by other names
pub interpolated_at : {f : FieldModel} {n wanted : ℕ} {symbols skip : List ℕ} {x : ℕ} {v v' p p' : List ℕ} {taken taken' : ℕ} → v' ≡ v → p' ≡ p → taken' ≡ taken →
    Interpolated f n wanted symbols skip x v p taken → Interpolated f n wanted symbols skip x v' p' taken'
interpolated_at {f} {n} {wanted} {symbols} {skip} {x} {v} {v'} {p} {p'} {taken} {taken'} ev ep et s =
    subst (λ (a : List ℕ). Interpolated f n wanted symbols skip x a p' taken') (sym ev)
    (subst (λ (a : List ℕ). Interpolated f n wanted symbols skip x v a taken') (sym ep) (subst (λ (a : ℕ). Interpolated f n wanted symbols skip x v p a) (sym et) s))

pub keyed_at : {f : FieldModel} {n : ℕ} {word marks g p : List ℕ} {x : ℕ} {q₀ e₀ q₁ e₁ q₀' e₀' q₁' e₁' : List ℕ} {b₀ b₁ b₀' b₁' : ℕ} →
    q₀' ≡ q₀ → e₀' ≡ e₀ → q₁' ≡ q₁ → e₁' ≡ e₁ → b₀' ≡ b₀ → b₁' ≡ b₁ →
    Keyed f n word marks g p x q₀ e₀ q₁ e₁ b₀ b₁ → Keyed f n word marks g p x q₀' e₀' q₁' e₁' b₀' b₁'
keyed_at {f} {n} {word} {marks} {g} {p} {x} {q₀} {e₀} {q₁} {e₁} {q₀'} {e₀'} {q₁'} {e₁'} {b₀} {b₁} {b₀'} {b₁'} iq₀ ie₀ iq₁ ie₁ ib₀ ib₁ s =
    subst (λ (a : List ℕ). Keyed f n word marks g p x a e₀' q₁' e₁' b₀' b₁') (sym iq₀)
    (subst (λ (a : List ℕ). Keyed f n word marks g p x q₀ a q₁' e₁' b₀' b₁') (sym ie₀)
    (subst (λ (a : List ℕ). Keyed f n word marks g p x q₀ e₀ a e₁' b₀' b₁') (sym iq₁)
    (subst (λ (a : List ℕ). Keyed f n word marks g p x q₀ e₀ q₁ a b₀' b₁') (sym ie₁)
    (subst (λ (a : ℕ). Keyed f n word marks g p x q₀ e₀ q₁ e₁ a b₁') (sym ib₀)
    (subst (λ (a : ℕ). Keyed f n word marks g p x q₀ e₀ q₁ e₁ b₀ a) (sym ib₁) s)))))
