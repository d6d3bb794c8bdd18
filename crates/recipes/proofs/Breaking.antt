-- Which rule is the first that is broken, as the stages are read. Assumes nothing.
use Rattle.std.proofs.Common.{◌≡◌, ℕ, suc, ◌+◌, ◌-◌, ◌*◌, ◌<◌, ◌≤◌, true, false, cond, List, [], ◌∷◌, ◌++◌, length, Some, None, Option, sym, refl, ap, ◌∙◌, add-one, arith, le-ltb}
use Rattle.words.specs.declared.fault.Fault.{Fault}
use Rattle.words.specs.Buffers.{either}
use Rattle.recipes.specs.declared.kinds.ChainKind.{ChainKind}
use Rattle.recipes.specs.declared.kinds.CodeKind.{CodeKind}
use Rattle.recipes.specs.Chains.{width_at}
use Rattle.recipes.specs.Codes.{fits_kind}
use Rattle.recipes.specs.Meaning.{two_bytes}
use Rattle.recipes.specs.Rules.{Rule, first_broken, kind_at, stage_rules, rules_from}

pub broken_append : (xs ys : List Rule) → first_broken (xs ++ ys) ≡ either (first_broken xs) (first_broken ys)
broken_append [] ys = refl
broken_append (x ∷ xs) ys =
    elim x.broken as (λ t. cond t (Some x.due) (first_broken (xs ++ ys)) ≡ either (cond t (Some x.due) (first_broken xs)) (first_broken ys)) [ true ↦ refl | false ↦ broken_append xs ys ]

module _ (b : List ℕ) (chain : ChainKind) where
  -- one stage more: its own rules come first, and those of the later stages after them
  pub rules_more : (s i : ℕ) (z : Option Fault) → i < s → first_broken (stage_rules b chain i) ≡ z → first_broken (rules_from b chain (s - i) i) ≡ either z (first_broken (rules_from b chain (s - (i + 1)) (i + 1)))
  rules_more s i z l e =
      let left : s - i ≡ suc (s - (i + 1)) = omega arith in
      ap (λ k. first_broken (rules_from b chain k i)) left
      ∙ broken_append (stage_rules b chain i) (rules_from b chain (s - (i + 1)) (suc i))
      ∙ ap (λ y. either y (first_broken (rules_from b chain (s - (i + 1)) (suc i)))) e
      ∙ ap (λ k. either z (first_broken (rules_from b chain (s - (i + 1)) k))) (sym (add-one i))

  pub stage_passes : (i : ℕ) (kind : CodeKind) → 6 + 3 * i ≤ length b → kind_at b chain i ≡ Some kind → fits_kind kind (width_at chain i) (two_bytes b 1) (two_bytes b (4 + 3 * i)) ≡ true → first_broken (stage_rules b chain i) ≡ None
  stage_passes i kind l named fits =
      let long : 4 + 3 * i ≤ length b = omega arith in
      rw (le-ltb (length b) (4 + 3 * i) long, le-ltb (length b) (6 + 3 * i) l, named, fits)
