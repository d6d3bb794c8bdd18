-- What follows from a chain's law, for every chain. Assumes nothing.
use Rattle.std.specs.Prelude.{◌≡◌, ℕ, zero, suc, ◌+◌, ◌-◌, ◌*◌, ◌^◌, ◌<◌, ◌≤◌, ◌⊎◌, List, [], ◌∷◌, ◌++◌, length, take, replicate, Some, None, Ok, Err, Option, Result, MatchResult, ◌≢◌, slice_index, refl}
use Rattle.std.proofs.Math.Path.{sym}
use Rattle.std.proofs.Common.{ap, ap₂, subst, ◌∙◌, inl, inr, ⊎_elim, arith, pow_pos}
use Rattle.std.proofs.Math.Pow.{pow_mono}
use Rattle.std.proofs.lemmas.List.{get_or-take, get_or_at, take_at, length-append, length-replicate}
use Rattle.std.proofs.lemmas.Bool.{cases_eq, cases_lt}
use Rattle.words.specs.declared.fault.Fault.{Fault}
use Rattle.words.specs.Harm.{harm}
use Rattle.words.proofs.Distances.{harms_apart, differences_le}
use Rattle.chains.specs.declared.chain.Estimate.{Estimate}
use Rattle.chains.specs.Derived.{TwoRows, OneEstimate, Derived, Determined}
use Rattle.chains.specs.Model.{ChainModel, LawfulChain, Stage, LabelsFrom, Row, FirstDiffer, at_stage}
use Rattle.chains.specs.Promises.{Estimates, Answered}
use Rattle.chains.specs.Refusals.{estimate_refusal}
use Rattle.chains.specs.Fits.{reading_fits}

-- where two rows of as many labels first differ, if they do
abbrev pub DifferFrom : List ℕ → List ℕ → ℕ → Type 0
DifferFrom u v j = (j < length u) × (take j u ≡ take j v) × (slice_index u j ≢ slice_index v j)

pub same_or_differ : (u v : List ℕ) → length u ≡ length v → (u ≡ v) ⊎ ((j : ℕ) × DifferFrom u v j)
same_or_differ [] [] l = inl refl
same_or_differ [] (y ∷ v) l = absurd (omega arith)
same_or_differ (x ∷ u) [] l = absurd (omega arith)
same_or_differ (x ∷ u) (y ∷ v) l = ⊎_elim (same (same_or_differ u v (omega arith))) other (cases_eq x y)
  where
    same : (u ≡ v) ⊎ ((j : ℕ) × DifferFrom u v j) → x ≡ y → (x ∷ u ≡ y ∷ v) ⊎ ((j : ℕ) × DifferFrom (x ∷ u) (y ∷ v) j)
    same rest e =
        ⊎_elim (λ es. inl (ap₂ ◌∷◌ e es)) (λ d. inr (suc d.0, (omega (arith, d.1.0), ap₂ ◌∷◌ e d.1.1, d.1.2))) rest

    other : (x ≢ y) → (x ∷ u ≡ y ∷ v) ⊎ ((j : ℕ) × DifferFrom (x ∷ u) (y ∷ v) j)
    other ne = inr (0, (omega arith, refl, ne))

-- rows that agree before stage i first differ at that stage or later
not_before : (i j : ℕ) (u v : List ℕ) → take (i - 1) u ≡ take (i - 1) v → (slice_index u j ≢ slice_index v j) → i ≤ suc j
not_before i j u v agree ne = ⊎_elim early (λ late. omega arith) (cases_lt j (i - 1))
  where
    early : j < i - 1 → i ≤ suc j
    early h = absurd (ne (sym (get_or-take (i - 1) u j 0 h) ∙ ap (λ w. slice_index w j) agree ∙ get_or-take (i - 1) v j 0 h))

-- labels that stand one after the other
pub labels_append : (width : ℕ → ℕ) (xs ys : List ℕ) (i : ℕ) → LabelsFrom width i xs → LabelsFrom width (i + length xs) ys → LabelsFrom width i (xs ++ ys)
labels_append width [] ys i a b = let here : i + 0 ≡ i = omega arith in subst (λ (k : ℕ). LabelsFrom width k ys) here b
labels_append width (x ∷ xs) ys i a b =
    let here : i + suc (length xs) ≡ suc i + length xs = omega arith in
    (a.0, labels_append width xs ys (suc i) a.1 (subst (λ (k : ℕ). LabelsFrom width k ys) here b))

labels_zero : (width : ℕ → ℕ) (k i : ℕ) → LabelsFrom width i (replicate k 0)
labels_zero width zero i = tt
labels_zero width (suc k) i = (pow_pos (width i), labels_zero width k (suc i))

module _ (h : ChainModel) (law : LawfulChain h) where
  pub two_rows : TwoRows h
  two_rows i u v cells marks stage ru rv agree differ lc lm =
      ⊎_elim (λ same. absurd (differ same)) apart (same_or_differ u v (ru.0 ∙ sym rv.0))
    where
      apart : (j : ℕ) × DifferFrom u v j → 2 * h.distance i ≤ harm cells marks (h.word u) + harm cells marks (h.word v)
      apart d =
          let j = d.0 in
          let late = not_before i j u v agree d.1.2 in
          let here : j ≡ suc j - 1 = omega arith in
          let at : Stage h (suc j) = (omega arith, omega (arith, d.1.0, ru.0)) in
          let first : FirstDiffer (suc j) u v = subst (λ (k : ℕ). (take k u ≡ take k v) × (slice_index u k ≢ slice_index v k)) here (d.1.1, d.1.2) in
          let far = law.apart (suc j) u v at ru rv first in
          let rises = law.never_falls i (suc j) stage at late in
          let sum = harms_apart cells marks (h.word u) (h.word v) (lm ∙ sym lc) ((law.words u ru).0 ∙ sym lc) ((law.words v rv).0 ∙ sym lc) in
          omega (arith, far, rises, sum)

  pub one_estimate : OneEstimate h
  one_estimate i labels cells marks None None stage lc lm ee ef = refl
  one_estimate i labels cells marks None (Some f) stage lc lm ee ef = absurd (omega (arith, ee ef.0 ef.1, ef.3, ef.4))
  one_estimate i labels cells marks (Some e) None stage lc lm ee ef = absurd (omega (arith, ef ee.0 ee.1, ee.3, ee.4))
  one_estimate i labels cells marks (Some e) (Some f) stage lc lm ee ef =
      ⊎_elim same (λ d. absurd (omega (arith, two_rows i u v cells marks stage ee.1.0 ef.1.0 (ee.1.1 ∙ sym ef.1.1) (unlike d) lc lm, ee.3, ee.4, ef.3, ef.4)))
      (same_or_differ u v (ee.1.0.0 ∙ sym ef.1.0.0))
    where
      u : List ℕ
      u = ee.0

      v : List ℕ
      v = ef.0

      unlike : (j : ℕ) × DifferFrom u v j → u ≢ v
      unlike d e = d.1.2 (ap (λ w. slice_index w d.0) e)

      same : u ≡ v → Some e ≡ Some f
      same p =
          let label : e.label ≡ f.label = ee.2 ∙ ap (λ w. at_stage w i) p ∙ sym ef.2 in
          let harms : e.harm ≡ f.harm = ee.3 ∙ ap (λ w. harm cells marks (h.word w)) p ∙ sym ef.3 in
          ap₂ (λ x y. Some (record { label = x; harm = y })) label harms

  -- a row of zeros, with the label x at stage i
  lone : ℕ → ℕ → List ℕ
  lone i x = replicate (i - 1) 0 ++ (x ∷ replicate (h.stages - i) 0)

  lone_row : (i x : ℕ) → Stage h i → x < 2 ^ h.width i → Row h (lone i x)
  unfolding lone
  lone_row i x stage small =
      let zeros : List ℕ = replicate (i - 1) 0 in
      let rest : List ℕ = replicate (h.stages - i) 0 in
      let front = length-replicate {A = ℕ} (i - 1) 0 in
      let back = length-replicate {A = ℕ} (h.stages - i) 0 in
      let at : i ≡ 1 + length zeros = omega (arith, stage, front) in
      let tail : LabelsFrom h.width i (x ∷ rest) = (small, labels_zero h.width (h.stages - i) (suc i)) in
      (length-append zeros (x ∷ rest) ∙ omega (arith, stage, front, back), labels_append h.width zeros (x ∷ rest) 1 (labels_zero h.width (i - 1) 1) (subst (λ (k : ℕ). LabelsFrom h.width k (x ∷ rest)) at tail))

  pub within : (i : ℕ) → Stage h i → h.distance i ≤ h.breadth
  unfolding lone
  within i stage =
      let u = lone i 0 in
      let v = lone i 1 in
      let wide = pow_mono {i = 1} {j = h.width i} (law.some_width i stage) in
      let ru = lone_row i 0 stage (pow_pos (h.width i)) in
      let rv = lone_row i 1 stage (omega (arith, wide)) in
      let zeros : List ℕ = replicate (i - 1) 0 in
      let front = length-replicate {A = ℕ} (i - 1) 0 in
      let labels : at_stage u i ≡ at_stage v i → ⊥ = λ e. omega (arith, sym (get_or_at zeros 0 _ 0 (i - 1) front) ∙ e ∙ get_or_at zeros 1 _ 0 (i - 1) front) in
      let first : FirstDiffer i u v = (take_at zeros _ (i - 1) front ∙ sym (take_at zeros _ (i - 1) front), labels) in
      omega (arith, law.apart i u v stage ru rv first, differences_le (h.word u) (h.word v), (law.words u ru).0)

  pub derived : Derived h
  derived = record { two_rows = two_rows; one_estimate = one_estimate; within = within; at_most = λ i s. omega (arith, within i s, law.few_cells) }

  -- an answer that is an estimate is the only one
  pub determined : (i : ℕ) (labels cells marks : List ℕ) (r : Result (Option Estimate) Fault) → Answered (estimate_refusal h.breadth h.stages h.width i labels cells marks) (Estimates h i labels cells marks) r → Determined h i labels cells marks r
  determined i labels cells marks r answer none e ee = by_result r (subst (λ (z : Option Fault). Answered z (Estimates h i labels cells marks) r) none answer)
    where
      by_result : (q : Result (Option Estimate) Fault) → MatchResult q (Estimates h i labels cells marks) (λ _. ⊥) → q ≡ Ok e
      by_result (Ok f) ef =
          let fits = reading_fits h.breadth h.stages h.width i labels cells marks none in
          ap Ok (one_estimate i labels cells marks f e (fits.low, fits.high) fits.cells_fit.0 fits.marks_fit.0 ef ee)
      by_result (Err f) never = absurd never
