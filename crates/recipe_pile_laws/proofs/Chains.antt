-- The chain that a recipe names has the numbers that the recipe's rules give it. Assumes nothing.
use Rattle.std.proofs.Common.{◌≡◌, ℕ, zero, suc, ◌+◌, ◌-◌, ◌^◌, ◌<◌, Bool, true, eqb, refl, ap, subst, arith}
use Rattle.std.proofs.lemmas.Bool.{eqb-true}
use Rattle.chains.specs.Model.{at_stage}
use Rattle.chains.specs.ReedMuller.{MullerRange, counted, muller_widths}
use Rattle.chains.specs.MullerColumns.{every, counted_test, each_muller}
use Rattle.recipes.specs.declared.kinds.ChainKind.{ChainKind}
use Rattle.recipes.specs.declared.kinds.ChainKind.TheVariants.{ReedMuller, Even}
use Rattle.recipes.specs.Chains.{Known, choose, width_at}
use Rattle.recipe_pile_laws.specs.Named.{named_chain}
use Rattle.recipe_pile_laws.specs.Numbers.{ChainNumbers}

-- as many numbers of r bits have r − i ones as have i
abbrev chosen : ℕ → ℕ → Bool
chosen r i = eqb (at_stage (muller_widths r) (suc i)) (choose r i)

muller_width : (r i : ℕ) → MullerRange r → i < r + 1 → at_stage (muller_widths r) (suc i) ≡ choose r i
muller_width r i range l =
    let all = each_muller (λ k. every (chosen k) (counted 0 (k + 1)) ≡ true) refl refl refl refl r range in
    let here : 0 + i ≡ i = omega arith in
    eqb-true _ _ (subst (λ (q : ℕ). chosen r q ≡ true) here (counted_test (chosen r) 0 (r + 1) i all l))

pub chain_numbers : (k : ChainKind) → Known k → ChainNumbers k (named_chain k)
chain_numbers (ReedMuller r) known =
    record {
      breadth = refl;
      stages = refl;
      width = λ i l. muller_width r i known l;
      distance = λ i l. let here : suc i - 1 ≡ i = omega arith in ap (λ m. 2 ^ m) here;
    }
chain_numbers (Even n) known =
    record { breadth = refl; stages = refl; width = λ i l. even_width i l; distance = λ i l. omega arith }
  where
    even_width : (i : ℕ) → i < 2 → (named_chain (Even n)).width (suc i) ≡ width_at (Even n) i
    even_width zero l = refl
    even_width (suc zero) l = refl
    even_width (suc (suc i)) l = absurd (omega arith)
