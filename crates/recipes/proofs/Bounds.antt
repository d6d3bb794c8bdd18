-- The numbers of a lawful table are small. Assumes nothing.
use Rattle.std.proofs.Common.{◌≡◌, ℕ, ◌*◌, ◌<◌, ◌≤◌, length, get_or, sym, ap, subst, mul-le-mul, arith, pow_mono}
use mathlib.Core.HLevel.{×_prop}
use mathlib.Core.Logic.{∥∥₁_elim}
use native.Mathlib.Bridge.{le_prop}
use native.Mathlib.Nat.{ℕ_set}
use Rattle.std.specs.List.{AllByRecursion}
use Rattle.std.proofs.ByRecursion.{All-from_get_or}
use Rattle.std.proofs.lemmas.List.{length-take-le, get_or-take}
use Rattle.recipes.specs.declared.kinds.ChainKind.{ChainKind}
use Rattle.recipes.specs.declared.kinds.ChainKind.TheVariants.{ReedMuller, Even}
use Rattle.recipes.specs.declared.kinds.CodeKind.{CodeKind}
use Rattle.recipes.specs.declared.kinds.CodeKind.TheVariants.{Open, ReedSolomon, Repetition, ExtendedReedSolomon}
use Rattle.recipes.specs.declared.table.Stage.{Stage}
use Rattle.recipes.specs.declared.table.Table.{Table}
use Rattle.recipes.specs.Chains.{Known, cells_of, stages_of, width_at, distance_at}
use Rattle.recipes.specs.Codes.{outer_distance}
use Rattle.recipes.specs.Meaning.{stage_at, Lawful}
use Rattle.recipes.specs.Stages.{blank}
use Rattle.recipes.specs.Totals.{Bounded, used_stages, stage_bits}
use Rattle.recipes.proofs.Filling.{few_columns, few_stages, message_within}
use Rattle.recipes.proofs.Triangle.{width_small}

pub bits_small : (s : Stage) → Bounded s → stage_bits s ≤ 32768
bits_small s h = mul-le-mul h.1.1.0 h.0

distance_small : (chain : ChainKind) (i : ℕ) → Known chain → i < stages_of chain → distance_at chain i ≤ 16
distance_small (ReedMuller r) i k l = pow_mono {i = i} {j = 4} (omega arith)
distance_small (Even n) i k l = omega arith

outer_small : (kind : CodeKind) (n k : ℕ) → n ≤ 4096 → 0 < k → k ≤ n → outer_distance kind n k ≤ 4096
outer_small Open n k few some within = omega arith
outer_small ReedSolomon n k few some within = omega arith
outer_small Repetition n k few some within = few
outer_small ExtendedReedSolomon n k few some within = omega arith

some_stages : (chain : ChainKind) → 0 < stages_of chain
some_stages (ReedMuller r) = omega arith
some_stages (Even n) = omega arith

known_prop : (chain : ChainKind) → IsProp (Known chain)
known_prop (ReedMuller r) = ×_prop le_prop le_prop
known_prop (Even n) = ×_prop le_prop le_prop

bounded_prop : (s : Stage) → IsProp (Bounded s)
bounded_prop s = ×_prop le_prop (×_prop le_prop (×_prop le_prop le_prop))

bounds : (t : Table) → Lawful t → (i : ℕ) → i < stages_of t.chain → Bounded (stage_at t i)
bounds t h i l =
    let s = stage_at t i in
    let stage = h.used i l in
    let few = few_columns t.chain t.columns h.known h.cells_fit in
    let within = message_within s.kind (width_at t.chain i) t.columns s.message_len h.some_columns stage.2 in (
      subst (λ (n : ℕ). n ≤ 8) (sym (ap (λ (x : Stage). x.width) stage.0)) (width_small t.chain i h.known l),
      (
        subst (λ (n : ℕ). n ≤ 16) (sym (ap (λ (x : Stage). x.inner) stage.0)) (distance_small t.chain i h.known l),
        (
          omega arith,
          subst (λ (n : ℕ). n ≤ 4096) (sym (ap (λ (x : Stage). x.distance) stage.0)) (outer_small s.kind t.columns s.message_len few within.0 within.1),
        ),
      ),
    )

pub known_chain : (t : Table) → ∥ Lawful t ∥₁ → Known t.chain
known_chain t h = ∥∥₁_elim h (known_prop t.chain) (λ l. l.known)

pub cells_within : (t : Table) → ∥ Lawful t ∥₁ → cells_of t.chain * t.columns ≤ 4096
cells_within t h = ∥∥₁_elim h le_prop (λ l. l.cells_fit)

bounded : (t : Table) → ∥ Lawful t ∥₁ → (i : ℕ) → i < stages_of t.chain → Bounded (stage_at t i)
bounded t h i l = ∥∥₁_elim h (bounded_prop (stage_at t i)) (λ lawful. bounds t lawful i l)

pub length_used : (t : Table) → ∥ Lawful t ∥₁ → length (used_stages t) ≡ stages_of t.chain
length_used t h =
    let five = ∥∥₁_elim h (ℕ_set _ _) (λ lawful. lawful.five) in
    length-take-le (stages_of t.chain) t.stages (omega (arith, five, few_stages t.chain (known_chain t h)))

pub all_bounded : (t : Table) → ∥ Lawful t ∥₁ → AllByRecursion Bounded (used_stages t)
all_bounded t h = All-from_get_or Bounded (used_stages t) blank each
  where
    each : (i : ℕ) → i < length (used_stages t) → Bounded (get_or (used_stages t) i blank)
    each i l =
        let within : i < stages_of t.chain = omega (arith, length_used t h) in
        subst Bounded (sym (get_or-take (stages_of t.chain) t.stages i blank within)) (bounded t h i within)

pub some_used : (t : Table) → ∥ Lawful t ∥₁ → 0 < length (used_stages t)
some_used t h = omega (arith, length_used t h, some_stages t.chain)

pub few_used : (t : Table) → ∥ Lawful t ∥₁ → length (used_stages t) ≤ 5
few_used t h = omega (arith, length_used t h, few_stages t.chain (known_chain t h))
