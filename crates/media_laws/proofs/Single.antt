-- A put of packed cells, and a cell's wear, leave one row of bytes. Assumes nothing.
use Rattle.std.proofs.Common.{◌≡◌, ℕ, ◌+◌, ◌-◌, ◌<◌, ◌≤◌, List, sym, ◌∙◌, subst, ⊎_elim, arith}
use Rattle.std.specs.List.{AllByRecursion}
use Rattle.std.proofs.lemmas.Bool.{cases_eq, cases_lt}
use Rattle.media_laws.specs.Packed.{bit_of, BitsPut, BitsWorn}
use Rattle.media_laws.proofs.Bits.{same_bytes}

module _ (before after other : List ℕ) (small : AllByRecursion (λ x. x < 256) after) (small' : AllByRecursion (λ x. x < 256) other) where
  abbrev Same : ℕ → Type 0
  Same k = bit_of other k ≡ bit_of after k

  pub one_put : (values marks : ℕ) (cells : List ℕ) (n : ℕ) → BitsPut before after values marks cells n → BitsPut before other values marks cells n → other ≡ after
  one_put values marks cells n a o =
      same_bytes after other (o.long ∙ sym a.long) small small' (λ k. ⊎_elim (λ l. outside k (λ from to. omega arith)) (λ from. behind k from) (cases_lt k values))
    where
      outside : (k : ℕ) → (values ≤ k → k < values + n → ⊥) → Same k
      outside k out = o.elsewhere k out ∙ sym (a.elsewhere k out)

      within : (i : ℕ) → i < n → Same (values + i)
      within i l = o.here i l ∙ sym (a.here i l)

      behind : (k : ℕ) → values ≤ k → Same k
      behind k from =
          let at : values + (k - values) ≡ k = omega arith in
          ⊎_elim (λ l. subst Same at (within (k - values) (omega arith))) (λ far. outside k (λ _ to. omega arith)) (cases_lt k (values + n))

  pub one_worn : (value mark state : ℕ) → BitsWorn before after value mark state → BitsWorn before other value mark state → other ≡ after
  one_worn value mark state a o =
      same_bytes after other (o.long ∙ sym a.long) small small'
      (λ k.
      ⊎_elim
      (λ e. subst Same (sym e) (o.value_bit ∙ sym a.value_bit))
      (λ ne. ⊎_elim (λ e. subst Same (sym e) (o.mark_bit ∙ sym a.mark_bit)) (λ ne'. o.elsewhere k ne ne' ∙ sym (a.elsewhere k ne ne')) (cases_eq k mark))
      (cases_eq k value))
