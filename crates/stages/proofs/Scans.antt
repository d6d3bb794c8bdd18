-- A scan for the first column that does not fit. Assumes nothing.
use Rattle.std.proofs.Common.{◌≡◌, ℕ, suc, ◌+◌, cond, not, Bool, true, false, List, [], ◌∷◌, Some, Option, refl, sym, ap, ◌∙◌, add-one}
use Rattle.std.specs.List.{position_from}
use Rattle.std.specs.Option.{option_map}
use Rattle.words.specs.declared.fault.Kind.TheVariants.{TooLarge}
use Rattle.words.specs.declared.fault.Layer.TheVariants.{Pile}
use Rattle.words.specs.Faults.{fault}
use Rattle.chains.specs.declared.chain.Estimate.{Estimate}
use Rattle.stage_laws.specs.Promises.{first_large, fits_column}

pub large_at : (symbols d j : ℕ) (es : List (Option Estimate)) → first_large symbols d j es ≡ option_map (fault TooLarge Pile) (position_from (λ e. not (fits_column symbols d e)) j es)
large_at symbols d j [] = refl
large_at symbols d j (e ∷ es) =
    let rest : first_large symbols d (suc j) es ≡ option_map (fault TooLarge Pile) (position_from (λ e. not (fits_column symbols d e)) (j + 1) es) =
    ap (λ k. first_large symbols d k es) (sym (add-one j)) ∙ large_at symbols d (j + 1) es in
    by (fits_column symbols d e) rest
  where
    by : (b : Bool) → first_large symbols d (suc j) es ≡ option_map (fault TooLarge Pile) (position_from (λ e. not (fits_column symbols d e)) (j + 1) es) → cond b (first_large symbols d (suc j) es) (Some (fault TooLarge Pile j)) ≡ option_map (fault TooLarge Pile) (cond (not b) (Some j) (position_from (λ e. not (fits_column symbols d e)) (j + 1) es))
    by true rest = rest
    by false rest = refl
