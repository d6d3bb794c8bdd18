-- What it says, stage by stage, that codes fit a chain. Assumes nothing.
use Rattle.std.proofs.Common.{◌≡◌, ℕ, zero, suc, ◌+◌, ◌-◌, ◌*◌, ◌<◌, ◌≤◌, Bool, true, false, cond, leb, List, [], ◌∷◌, length, get_or, Some, None, Option, refl, ap, ◌∙◌, arith}
use Rattle.std.proofs.lemmas.Bool.{and_parts, eqb-true, leb-true, leb-false}
use Rattle.words.specs.Buffers.{either}
use Rattle.chains.specs.Model.{ChainModel}
use Rattle.codes.specs.Model.{CodeModel, Lawful}
use Rattle.pile_laws.specs.Build.{columns}
use Rattle.pile_laws.specs.Fit.{Fits, EachLawful, EachLong, fits_stage, unfit_from}
use Rattle.pile_laws.specs.Stages.{no_code, code_at}

-- from stage i on each code has a stage, its width and n columns, and no stage is left
abbrev pub Fitting : ChainModel → ℕ → ℕ → List CodeModel → Type 0
Fitting h n i [] = h.stages < i
Fitting h n i (c ∷ cs) = (i ≤ h.stages) × (c.width ≡ h.width i) × (c.len ≡ n) × Fitting h n (suc i) cs

none_left : {X : Type 0} (x y : Option X) → either x y ≡ None → (x ≡ None) × (y ≡ None)
none_left None y e = (refl, e)
none_left (Some x) y e = (e, cc)

pub fitting_from : (h : ChainModel) (n i : ℕ) (cs : List CodeModel) → unfit_from h n i cs ≡ None → Fitting h n i cs
fitting_from h n i [] e = by (leb i h.stages) (leb-false i h.stages) e
  where
    by : (t : Bool) → (t ≡ false → h.stages < i) → cond t (Some i) None ≡ None → h.stages < i
    by true past none = let z : ◌≡◌ {A = ℕ} 0 1 = cc in absurd (omega arith)
    by false past none = past refl
fitting_from h n i (c ∷ cs) e = by (fits_stage h n i c) (λ t. t) (fitting_from h n (suc i) cs) e
  where
    fits : fits_stage h n i c ≡ true → (i ≤ h.stages) × (c.width ≡ h.width i) × (c.len ≡ n)
    fits t =
        let p = and_parts _ _ t in
        let q = and_parts _ _ p.1 in
        (leb-true i h.stages p.0, eqb-true c.width (h.width i) q.0, eqb-true c.len n q.1)

    by : (t : Bool) → (t ≡ true → fits_stage h n i c ≡ true) → (unfit_from h n (suc i) cs ≡ None → Fitting h n (suc i) cs) → cond t (unfit_from h n (suc i) cs) (Some i) ≡ None → Fitting h n i (c ∷ cs)
    by true is rest none = let f = fits (is refl) in (f.0, f.1, f.2, rest none)
    by false is rest none = let z : ◌≡◌ {A = ℕ} 0 1 = cc in absurd (omega arith)

pub fitting : (h : ChainModel) (cs : List CodeModel) → Fits h cs → Fitting h (columns cs) 1 cs × (h.breadth * columns cs ≤ 4096)
fitting h cs e = let p = none_left (unfit_from h (columns cs) 1 cs) _ e in (fitting_from h (columns cs) 1 cs p.0, short (leb (h.breadth * columns cs) 4096) (leb-true (h.breadth * columns cs) 4096) p.1)
  where
    short : (t : Bool) → (t ≡ true → h.breadth * columns cs ≤ 4096) → cond {A = Option ℕ} t None (Some 0) ≡ None → h.breadth * columns cs ≤ 4096
    short true le none = le refl
    short false le none = let z : ◌≡◌ {A = ℕ} 0 1 = cc in absurd (omega arith)

pub fitting_length : (h : ChainModel) (n i : ℕ) (cs : List CodeModel) → 1 ≤ i → i ≤ suc h.stages → Fitting h n i cs → i + length cs ≡ suc h.stages
fitting_length h n i [] low high f = omega (arith, f)
fitting_length h n i (c ∷ cs) low high f = omega (arith, fitting_length h n (suc i) cs (omega arith) (omega (arith, f.0)) f.3)

-- the code with index k
pub fitting_at : (h : ChainModel) (n i k : ℕ) (cs : List CodeModel) → k < length cs → Fitting h n i cs → (i + k ≤ h.stages) × ((get_or cs k no_code).width ≡ h.width (i + k)) × ((get_or cs k no_code).len ≡ n)
fitting_at h n i k [] l f = absurd (omega arith)
fitting_at h n i zero (c ∷ cs) l f =
    let here : i ≡ i + 0 = omega arith in (omega (arith, f.0), f.1 ∙ ap h.width here, f.2)
fitting_at h n i (suc k) (c ∷ cs) l f =
    let p = fitting_at h n (suc i) k cs (omega arith) f.3 in
    let here : suc i + k ≡ i + suc k = omega arith in
    (omega (arith, p.0), p.1 ∙ ap h.width here, p.2)

pub lawful_at : (k : ℕ) (cs : List CodeModel) → k < length cs → EachLawful cs → Lawful (get_or cs k no_code)
lawful_at k [] l a = absurd (omega arith)
lawful_at zero (c ∷ cs) l a = a.0
lawful_at (suc k) (c ∷ cs) l a = lawful_at k cs (omega arith) a.1

-- the code of stage k + 1
pub code_after : (cs : List CodeModel) (k : ℕ) → code_at cs (suc k) ≡ get_or cs k no_code
code_after cs k = let here : suc k - 1 ≡ k = omega arith in ap (λ (m : ℕ). get_or cs m no_code) here

pub each_long : (h : ChainModel) (n i : ℕ) (cs : List CodeModel) → Fitting h n i cs → EachLong n cs
each_long h n i [] f = tt
each_long h n i (c ∷ cs) f = (f.2, each_long h n (suc i) cs f.3)
