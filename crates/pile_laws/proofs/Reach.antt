-- The reach is the least of the stages' inner times outer distances. Assumes nothing.
use Rattle.std.proofs.Common.{◌≡◌, ℕ, zero, suc, ◌+◌, ◌*◌, ◌<◌, ◌≤◌, min, List, [], ◌∷◌, length, get_or, refl, ap, ◌∙◌, arith}
use native.Mathlib.Nat.{one-le-mul}
use Rattle.std.specs.List.{AllByRecursion}
use Rattle.chains.specs.Model.{ChainModel, LawfulChain}
use Rattle.codes.specs.Model.{CodeModel}
use Rattle.pile_laws.specs.Build.{least, reach, smallest, stage_reaches}
use Rattle.pile_laws.specs.Fit.{EachLawful}
use Rattle.pile_laws.specs.Stages.{no_code}
use Rattle.pile_laws.proofs.Fitting.{Fitting}

least_le : (m : ℕ) (xs : List ℕ) → least m xs ≤ m
least_le m [] = omega arith
least_le m (x ∷ xs) = omega (arith, least_le (min m x) xs)

least_each : (m : ℕ) (xs : List ℕ) (k : ℕ) → k < length xs → least m xs ≤ get_or xs k 0
least_each m [] k l = absurd (omega arith)
least_each m (x ∷ xs) zero l = omega (arith, least_le (min m x) xs)
least_each m (x ∷ xs) (suc k) l = least_each (min m x) xs k (omega arith)

pub smallest_each : (xs : List ℕ) (k : ℕ) → k < length xs → smallest xs ≤ get_or xs k 0
smallest_each [] k l = absurd (omega arith)
smallest_each (x ∷ xs) zero l = least_le x xs
smallest_each (x ∷ xs) (suc k) l = least_each x xs k (omega arith)

least_above : (b m : ℕ) (xs : List ℕ) → b ≤ m → AllByRecursion (λ x. b ≤ x) xs → b ≤ least m xs
least_above b m [] h a = h
least_above b m (x ∷ xs) h a = least_above b (min m x) xs (omega (arith, a.0)) a.1

smallest_above : (b : ℕ) (xs : List ℕ) → 0 < length xs → AllByRecursion (λ x. b ≤ x) xs → b ≤ smallest xs
smallest_above b [] l a = absurd (omega arith)
smallest_above b (x ∷ xs) l a = least_above b x xs a.0 a.1

module _ (h : ChainModel) where
  pub length_reaches : (i : ℕ) (cs : List CodeModel) → length (stage_reaches h i cs) ≡ length cs
  length_reaches i [] = refl
  length_reaches i (c ∷ cs) = ap suc (length_reaches (suc i) cs)

  pub reaches_at : (i k : ℕ) (cs : List CodeModel) → k < length cs → get_or (stage_reaches h i cs) k 0 ≡ h.distance (i + k) * (get_or cs k no_code).distance
  reaches_at i k [] l = absurd (omega arith)
  reaches_at i zero (c ∷ cs) l = let here : i ≡ i + 0 = omega arith in ap (λ (n : ℕ). h.distance n * c.distance) here
  reaches_at i (suc k) (c ∷ cs) l =
      let on : suc i + k ≡ i + suc k = omega arith in
      reaches_at (suc i) k cs (omega arith) ∙ ap (λ (n : ℕ). h.distance n * (get_or cs k no_code).distance) on

  pub reach_each : (k : ℕ) (cs : List CodeModel) → k < length cs → reach h cs ≤ h.distance (suc k) * (get_or cs k no_code).distance
  reach_each k cs l =
      let here : 1 + k ≡ suc k = omega arith in
      omega (arith, smallest_each (stage_reaches h 1 cs) k (omega (arith, length_reaches 1 cs)), reaches_at 1 k cs l, ap (λ (n : ℕ). h.distance n * (get_or cs k no_code).distance) here)

  some_reaches : (law : LawfulChain h) (n i : ℕ) (cs : List CodeModel) → 1 ≤ i → Fitting h n i cs → EachLawful cs → AllByRecursion (λ x. 1 ≤ x) (stage_reaches h i cs)
  some_reaches law n i [] low fit laws = tt
  some_reaches law n i (c ∷ cs) low fit laws =
      (one-le-mul (law.some_distance i (low, fit.0)) laws.0.some_distance, some_reaches law n (suc i) cs (omega arith) fit.3 laws.1)

  pub some_reach : (law : LawfulChain h) (n : ℕ) (cs : List CodeModel) → 0 < length cs → Fitting h n 1 cs → EachLawful cs → 1 ≤ reach h cs
  some_reach law n cs some fit laws = smallest_above 1 (stage_reaches h 1 cs) (omega (arith, length_reaches 1 cs)) (some_reaches law n 1 cs (omega arith) fit laws)
