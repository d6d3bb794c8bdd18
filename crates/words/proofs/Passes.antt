-- A row of buffers is refused by no check exactly when each of them fits. Assumes nothing.
use Rattle.std.proofs.Common.{◌≡◌, ℕ, suc, ◌<◌, Bool, true, false, cond, ltb, List, [], ◌∷◌, length, Some, None, Option, refl, ltb-true, lt-ltb, eq-eqb, eqb-true}
use Rattle.std.specs.List.{AllByRecursion}
use Rattle.std.proofs.ByRecursion.{All-weaker}
use Rattle.words.specs.declared.fault.Fault.{Fault}
use Rattle.words.specs.declared.fault.Layer.{Layer}
use Rattle.words.specs.Buffers.{Given, Fits, wrong_length, first_large, too_large, either, first_of, refusal}

pub none_left : {X : Type 0} (x y : Option X) → either x y ≡ None → x ≡ None
none_left None y e = refl
none_left (Some x) y e = e

pub none_right : {X : Type 0} (x y : Option X) → either x y ≡ None → y ≡ None
none_right None y e = e
none_right (Some x) y e = cc

-- a test that gives no refusal has passed
pub passed : {X : Type 0} (t : Bool) (x : X) → cond t None (Some x) ≡ None → t ≡ true
passed true x e = refl
passed false x e = cc

pub passed_on : {X : Type 0} (t : Bool) (x : X) (rest : Option X) → cond t rest (Some x) ≡ None → (t ≡ true) × (rest ≡ None)
passed_on true x rest e = (refl, e)
passed_on false x rest e = (cc, cc)

module _ (layer : Layer) where
  fits_length : (b : Given) → wrong_length layer b ≡ None → length b.content ≡ b.wanted
  fits_length b e = eqb-true _ _ (passed _ _ e)

  fits_values : (bound i : ℕ) (xs : List ℕ) → first_large layer bound i xs ≡ None → AllByRecursion (λ x. x < bound) xs
  fits_values bound i [] e = tt
  fits_values bound i (x ∷ xs) e =
      let p = passed_on (ltb x bound) _ (first_large layer bound (suc i) xs) e in
      (ltb-true _ _ p.0, fits_values bound (suc i) xs p.1)

  all_none : (f : Given → Option Fault) (bs : List Given) → first_of f bs ≡ None → AllByRecursion (λ b. f b ≡ None) bs
  all_none f [] e = tt
  all_none f (b ∷ bs) e = (none_left (f b) (first_of f bs) e, all_none f bs (none_right (f b) (first_of f bs) e))

  both : (bs : List Given) → AllByRecursion (λ b. wrong_length layer b ≡ None) bs → AllByRecursion (λ b. too_large layer b ≡ None) bs → AllByRecursion Fits bs
  both [] l v = tt
  both (b ∷ bs) l v = ((fits_length b l.0, fits_values b.below 0 b.content v.0), both bs l.1 v.1)

  pub fits_from_none : (bs : List Given) → refusal layer bs ≡ None → AllByRecursion Fits bs
  fits_from_none bs e =
      both bs (all_none (wrong_length layer) bs (none_left _ _ e)) (all_none (too_large layer) bs (none_right (first_of (wrong_length layer) bs) _ e))

  length_passes : (b : Given) → length b.content ≡ b.wanted → wrong_length layer b ≡ None
  length_passes b e = rw (eq-eqb _ _ e)

  values_pass : (bound i : ℕ) (xs : List ℕ) → AllByRecursion (λ x. x < bound) xs → first_large layer bound i xs ≡ None
  values_pass bound i [] a = refl
  values_pass bound i (x ∷ xs) a = rw (lt-ltb x bound a.0) (values_pass bound (suc i) xs a.1)

  none_of : (f : Given → Option Fault) (bs : List Given) → AllByRecursion (λ b. f b ≡ None) bs → first_of f bs ≡ None
  none_of f [] a = refl
  none_of f (b ∷ bs) a = rw a.0 (none_of f bs a.1)

  pub none_from_fits : (bs : List Given) → AllByRecursion Fits bs → refusal layer bs ≡ None
  none_from_fits bs a =
      let lengths = none_of (wrong_length layer) bs (All-weaker Fits _ (λ b h. length_passes b h.0) bs a) in
      let values = none_of (too_large layer) bs (All-weaker Fits _ (λ b h. values_pass b.below 0 b.content h.1) bs a) in
      rw lengths values
