-- The pile of a recipe is made. Assumes nothing.
use Rattle.std.proofs.Common.{◌≡◌, List, [], ◌∷◌, map, None, Some, Ok, Err, Option, Result, sym, ◌∙◌, subst}
use Rattle.std.specs.List.{AllByRecursion}
use Rattle.words.specs.declared.fault.Fault.{Fault}
use Rattle.words.specs.Soundness.{Sound}
use Rattle.recipes.specs.declared.table.Stage.{Stage}
use Rattle.recipes.specs.declared.table.Table.{Table}
use Rattle.recipes.specs.Totals.{used_stages}
use Rattle.piles.specs.declared.pile.Pile.{Pile}
use Rattle.piles.specs.FromRefusal.{none_refused}
use Rattle.piles.specs.Sound.{SoundParts, stages_of}
use Rattle.recipe_pile_laws.specs.Named.{named_chain}
use Rattle.recipe_pile_laws.specs.Numbers.{PileDescribed}
use Rattle.recipe_piles.specs.declared.parts.Parts.{Parts}
use Rattle.recipe_piles.specs.Parts.{RecipeChain, StageCode, chain_model, code_model, code_refusal, codes_of, recipe_chains, stage_codes}
use Rattle.recipe_piles.specs.Made.{IsChain, Made, MakesPile, PartsOf, PileOf, StagesHave}

stages_sound : (ss : List Stage) (cs : List StageCode) → StagesHave ss cs → AllByRecursion (Sound code_refusal) cs
stages_sound [] [] have = tt
stages_sound [] (c ∷ cs) have = absurd have
stages_sound (s ∷ ss) [] have = absurd have
stages_sound (s ∷ ss) (c ∷ cs) have = (have.0.0, stages_sound ss cs have.1)

-- the parts that a recipe names make the pile that it describes
pub pile_made : (t : Table) (p : Parts) → PartsOf t p → (r : Result (Pile RecipeChain StageCode) Fault) → MakesPile p r → Made (PileOf t) r
pile_made t p of (Ok q) made =
    let stages = stages_of recipe_chains stage_codes q in
    record {
      sound = subst (λ (h : RecipeChain). SoundParts recipe_chains stage_codes h stages) (sym made.0)
          (subst (λ (xs : List StageCode). SoundParts recipe_chains stage_codes p.chain xs) (sym made.1) made.2);
      chain = subst (λ (h : RecipeChain). IsChain (named_chain t.chain) h) (sym made.0) of.chain;
      codes = subst (λ (xs : List StageCode). StagesHave (used_stages t) xs) (sym made.1) of.codes;
      described = subst (λ (h : RecipeChain). PileDescribed t (chain_model h) (map code_model stages)) (sym made.0)
          (subst (λ (xs : List StageCode). PileDescribed t (chain_model p.chain) (map code_model xs)) (sym made.1) of.described);
    }
pile_made t p of (Err f) refused =
    let sound = none_refused recipe_chains stage_codes p.chain (codes_of p) (of.chain.0, stages_sound (used_stages t) (codes_of p) of.codes, of.described.fits) in
    let same : ◌≡◌ {A = Option Fault} None (Some f) = sym sound ∙ refused in
    absurd (none_some f same)
  where
    none_some : (f : Fault) → ◌≡◌ {A = Option Fault} None (Some f) → ⊥
    none_some f e = cc
