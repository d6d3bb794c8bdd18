-- What is handed to a call that refuses nothing fits. Assumes nothing.
use Rattle.std.specs.Prelude.{◌≡◌, ℕ, suc, ◌-◌, ◌^◌, ◌≤◌, Bool, true, false, cond, ◌&&◌, List, [], ◌∷◌, Some, None, Option, nat_le, nat_lt, refl}
use Rattle.std.proofs.lemmas.Bool.{ltb-true, leb-true, and_parts}
use Rattle.words.specs.declared.fault.Layer.TheVariants.{Chain}
use Rattle.words.specs.Buffers.{either, refusal}
use Rattle.words.proofs.Passes.{fits_from_none}
use Rattle.chains.specs.Model.{LabelsFrom}
use Rattle.chains.specs.Refusals.{stage_refusal, large_label, sized, binary, word_refusal, estimate_refusal, RowFits, ReadingFits}

left : {X : Type 0} (x y : Option X) → either x y ≡ None → x ≡ None
left None y e = refl
left (Some x) y e = e

right : {X : Type 0} (x y : Option X) → either x y ≡ None → y ≡ None
right None y e = e
right (Some x) y e = cc

went : {X : Type 0} (t : Bool) (x : X) (rest : Option X) → cond t rest (Some x) ≡ None → (t ≡ true) × (rest ≡ None)
went true x rest e = (refl, e)
went false x rest e = (cc, cc)

labels_fit : (width : ℕ → ℕ) (i : ℕ) (xs : List ℕ) → large_label width i xs ≡ None → LabelsFrom width (suc i) xs
labels_fit width i [] e = tt
labels_fit width i (x ∷ xs) e =
    let p = went (nat_lt x (2 ^ width (suc i))) _ (large_label width (suc i) xs) e in
    (ltb-true _ _ p.0, labels_fit width (suc i) xs p.1)

pub stage_fits : (stages i : ℕ) → stage_refusal stages i ≡ None → (1 ≤ i) × (i ≤ stages)
stage_fits stages i e =
    let p = and_parts (nat_le 1 i) (nat_le i stages) (went (nat_le 1 i && nat_le i stages) _ None e).0 in
    (leb-true 1 i p.0, leb-true i stages p.1)

pub row_fits : (n stages : ℕ) (width : ℕ → ℕ) (labels cells : List ℕ) → word_refusal n stages width labels cells ≡ None → RowFits n stages width labels cells
row_fits n stages width labels cells e =
    let sizes = fits_from_none Chain (sized stages labels ∷ sized n cells ∷ []) (left _ (large_label width 0 labels) e) in
    record {
      many = sizes.0.0;
      each = labels_fit width 0 labels (right (refusal Chain (sized stages labels ∷ sized n cells ∷ [])) _ e);
      room = sizes.1.0.0;
    }

pub reading_fits : (n stages : ℕ) (width : ℕ → ℕ) (i : ℕ) (labels cells marks : List ℕ) → estimate_refusal n stages width i labels cells marks ≡ None → ReadingFits n stages width i labels cells marks
reading_fits n stages width i labels cells marks e =
    let sized_due = refusal Chain (sized (i - 1) labels ∷ sized n cells ∷ sized n marks ∷ []) in
    let binary_due = refusal Chain (binary n cells ∷ binary n marks ∷ []) in
    let e₁ = right (stage_refusal stages i) (either sized_due (either (large_label width 0 labels) binary_due)) e in
    let e₂ = right sized_due (either (large_label width 0 labels) binary_due) e₁ in
    let stage = stage_fits stages i (left (stage_refusal stages i) _ e) in
    let sizes = fits_from_none Chain (sized (i - 1) labels ∷ sized n cells ∷ sized n marks ∷ []) (left sized_due _ e₁) in
    let values = fits_from_none Chain (binary n cells ∷ binary n marks ∷ []) (right (large_label width 0 labels) binary_due e₂) in
    record {
      low = stage.0;
      high = stage.1;
      many = sizes.0.0;
      each = labels_fit width 0 labels (left (large_label width 0 labels) binary_due e₂);
      cells_fit = values.0;
      marks_fit = values.1.0;
    }
