-- The code that a stage names has the numbers of the stage's record. Assumes nothing.
use Rattle.std.proofs.Common.{◌≡◌, ℕ, zero, suc, ◌-◌, ◌%◌, ◌<◌, ◌≤◌, true, false, cond, eqb, sym, refl, ap, ◌∙◌, subst, arith}
use mathlib.Core.Bool.{Bool-set}
use mathlib.Core.HLevel.{×_prop}
use mathlib.Core.Logic.{∥∥₁_elim}
use native.Mathlib.Nat.{ℕ_set}
use Rattle.std.proofs.lemmas.Bool.{eqb-true}
use Rattle.recipes.specs.declared.kinds.ChainKind.{ChainKind}
use Rattle.recipes.specs.declared.kinds.ChainKind.TheVariants.{ReedMuller, Even}
use Rattle.recipes.specs.declared.kinds.CodeKind.{CodeKind}
use Rattle.recipes.specs.declared.kinds.CodeKind.TheVariants.{Open, ReedSolomon, Repetition, ExtendedReedSolomon}
use Rattle.recipes.specs.declared.table.Stage.{Stage}
use Rattle.recipes.specs.declared.table.Table.{Table}
use Rattle.recipes.specs.Chains.{Known, choose, stages_of, width_at, distance_at}
use Rattle.recipes.specs.Codes.{allowed, fits_kind, outer_distance}
use Rattle.recipes.specs.Meaning.{Lawful, LawfulStage, stage_at}
use Rattle.recipe_pile_laws.specs.Named.{named_code, stage_code}

-- the code is one that its kind has, and its distance is that of the kind
abbrev pub Kept : Stage → Type 0
Kept s =
    (s.distance ≡ outer_distance s.kind s.len s.message_len)
    × ((allowed s.kind s.width ≡ true) × (fits_kind s.kind s.width s.len s.message_len ≡ true))

-- and the record is that of the stage with index i
abbrev pub Numbered : ChainKind → ℕ → ℕ → Stage → Type 0
Numbered chain n i s = (s.width ≡ width_at chain i) × ((s.inner ≡ distance_at chain i) × ((s.len ≡ n) × Kept s))

numbered_prop : (chain : ChainKind) (n i : ℕ) (s : Stage) → IsProp (Numbered chain n i s)
numbered_prop chain n i s =
    ×_prop (ℕ_set _ _) (×_prop (ℕ_set _ _) (×_prop (ℕ_set _ _) (×_prop (ℕ_set _ _) (×_prop (Bool-set _ _) (Bool-set _ _)))))

lawful_numbered : (chain : ChainKind) (n i : ℕ) (s : Stage) → LawfulStage chain n i s → Numbered chain n i s
lawful_numbered chain n i s h =
    let is = h.0 in
    let width = ap (λ (x : Stage). x.width) is in
    let len = ap (λ (x : Stage). x.len) is in (
      width,
      (
        ap (λ (x : Stage). x.inner) is,
        (
          len,
          (
            ap (λ (x : Stage). x.distance) is ∙ ap (λ m. outer_distance s.kind m s.message_len) (sym len),
            (
              subst (λ (m : ℕ). allowed s.kind m ≡ true) (sym width) h.1,
              subst (λ (m : ℕ). fits_kind s.kind m s.len s.message_len ≡ true) (sym width)
                  (subst (λ (m : ℕ). fits_kind s.kind (width_at chain i) m s.message_len ≡ true) (sym len) h.2),
            ),
          ),
        ),
      ),
    )

pub table_numbered : (t : Table) → ∥ Lawful t ∥₁ → (i : ℕ) → i < stages_of t.chain → Numbered t.chain t.columns i (stage_at t i)
table_numbered t h i l =
    ∥∥₁_elim h (numbered_prop t.chain t.columns i (stage_at t i)) (λ lawful. lawful_numbered t.chain t.columns i (stage_at t i) (lawful.used i l))

pub record CodeNumbers (s : Stage) : Type 0 where
  pub width : (stage_code s).width ≡ s.width
  pub len : (stage_code s).len ≡ s.len
  pub message_len : (stage_code s).message_len ≡ s.message_len
  pub distance : (stage_code s).distance ≡ s.distance

kind_numbers : (kind : CodeKind) (width n k : ℕ) → allowed kind width ≡ true → fits_kind kind width n k ≡ true → ((named_code kind width n k).width ≡ width) × ((named_code kind width n k).len ≡ n) × ((named_code kind width n k).message_len ≡ k) × ((named_code kind width n k).distance ≡ outer_distance kind n k)
kind_numbers Open width n k a f = (refl, refl, sym (eqb-true k n f), refl)
kind_numbers ReedSolomon width n k a f = (refl, refl, refl, refl)
kind_numbers Repetition width n k a f = (refl, refl, sym (eqb-true k 1 f), refl)
kind_numbers ExtendedReedSolomon width n k a f = (omega (arith, eqb-true (width % 2) 0 a), refl, refl, refl)

pub code_numbers : (s : Stage) → Kept s → CodeNumbers s
code_numbers s kept =
    let p = kind_numbers s.kind s.width s.len s.message_len kept.1.0 kept.1.1 in
    record { width = p.0; len = p.1; message_len = p.2; distance = p.3 ∙ sym kept.0 }

some_choice : (n k : ℕ) → k ≤ n → 1 ≤ choose n k
some_choice n zero l = omega arith
some_choice zero (suc k) l = absurd (omega arith)
some_choice (suc n) (suc k) l = omega (arith, some_choice n k (omega arith))

pub some_width : (chain : ChainKind) (i : ℕ) → Known chain → i < stages_of chain → 1 ≤ width_at chain i
some_width (ReedMuller r) i known l = some_choice r i (omega arith)
some_width (Even n) i known l = elim (eqb i 0) as (λ t. 1 ≤ cond t 1 (n - 1)) [ true ↦ omega arith | false ↦ omega arith ]
