-- Pascal's triangle as a table of rows, and the widths that chains have. Assumes nothing.
use Rattle.std.proofs.Common.{◌≡◌, ℕ, ◌-◌, ◌<◌, ◌≤◌, Bool, true, false, cond, eqb, leb, List, [], ◌∷◌, length, get_or, refl, arith, eqb-true, leb-true}
use Rattle.words.proofs.Table.{entry_passes, passes_all}
use Rattle.recipes.specs.declared.kinds.ChainKind.{ChainKind}
use Rattle.recipes.specs.declared.kinds.ChainKind.TheVariants.{ReedMuller, Even}
use Rattle.recipes.specs.Chains.{Known, choose, stages_of, width_at}

abbrev pub rows : List (List ℕ)
rows =
    (1 ∷ 0 ∷ 0 ∷ 0 ∷ 0 ∷ [])
    ∷ (1 ∷ 1 ∷ 0 ∷ 0 ∷ 0 ∷ [])
    ∷ (1 ∷ 2 ∷ 1 ∷ 0 ∷ 0 ∷ [])
    ∷ (1 ∷ 3 ∷ 3 ∷ 1 ∷ 0 ∷ [])
    ∷ (1 ∷ 4 ∷ 6 ∷ 4 ∷ 1 ∷ [])
    ∷ []

abbrev right_entry : ℕ → ℕ → ℕ → Bool
right_entry r k x = eqb x (choose r k)

pub rows_right : (r k : ℕ) (d : List ℕ) → r < 5 → k < 5 → get_or (get_or rows r d) k 0 ≡ choose r k
rows_right r k d hr hk =
    let row = get_or rows r d in
    let long : length row ≡ 5 = eqb-true _ _ (entry_passes (λ _ xs. eqb (length xs) 5) rows refl r d hr) in
    eqb-true _ _ (entry_passes (right_entry r) row (entry_passes (λ n xs. passes_all (right_entry n) 0 xs) rows refl r d hr) k 0 (omega arith))

choose_small : (r k : ℕ) → r < 5 → k < 5 → choose r k ≤ 8
choose_small r k hr hk =
    let row = get_or rows r [] in
    let long : length row ≡ 5 = eqb-true _ _ (entry_passes (λ _ xs. eqb (length xs) 5) rows refl r [] hr) in
    let small : get_or row k 0 ≤ 8 = leb-true _ _ (entry_passes (λ _ x. leb x 8) row (entry_passes (λ _ xs. passes_all (λ _ x. leb x 8) 0 xs) rows refl r [] hr) k 0 (omega arith)) in
    omega (arith, small, rows_right r k [] hr hk)

pub width_small : (chain : ChainKind) (i : ℕ) → Known chain → i < stages_of chain → width_at chain i ≤ 8
width_small (ReedMuller r) i h l = choose_small r i (omega arith) (omega arith)
width_small (Even n) i h l = elim (eqb i 0) as (λ t. cond t 1 (n - 1) ≤ 8) [ true ↦ omega arith | false ↦ omega arith ]
