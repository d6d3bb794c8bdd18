-- What the makers give: sound parts that are what the recipe names, and never a refusal. Assumes nothing.
use Rattle.std.specs.Prelude.{◌≡◌, ℕ, ◌/◌, ◌^◌, ◌≤◌, List, [], ◌∷◌, map, Some, Result, MatchResult}
use Rattle.words.specs.declared.fault.Fault.{Fault}
use Rattle.words.specs.Soundness.{Sound}
use Rattle.either.specs.declared.Either.{Either}
use Rattle.either.specs.declared.Either.TheVariants.{Left, Right}
use Rattle.chains.specs.Model.{ChainModel}
use Rattle.recipes.specs.declared.kinds.CodeKind.{CodeKind}
use Rattle.recipes.specs.declared.kinds.CodeKind.TheVariants.{Open, ReedSolomon, Repetition, ExtendedReedSolomon}
use Rattle.recipes.specs.declared.table.Stage.{Stage}
use Rattle.recipes.specs.declared.table.Table.{Table}
use Rattle.recipes.specs.Totals.{used_stages}
use Rattle.piles.specs.declared.pile.Pile.{Pile}
use Rattle.piles.specs.Sound.{SoundParts, SoundPile, parts_refusal, stages_of}
use Rattle.recipe_pile_laws.specs.Named.{named_chain, extension_constant}
use Rattle.recipe_pile_laws.specs.Numbers.{PileDescribed}
use Rattle.recipe_piles.specs.declared.parts.Parts.{Parts}
use Rattle.recipe_piles.specs.Parts.{RecipeChain, StageCode, chain_model, chain_refusal, code_model, code_refusal, codes_of, models_of, recipe_chains, stage_codes}

abbrev pub Made : {X : Type 0} → (X → Type 0) → Result X Fault → Type 0
Made Is r = MatchResult r Is (λ _. ⊥)

abbrev pub IsChain : ChainModel → RecipeChain → Type 0
IsChain meant h = Sound chain_refusal h × (chain_model h ≡ meant)

abbrev of_either : {X Y : Type 0} → (X → Type 0) → (Y → Type 0) → Either X Y → Type 0
of_either P Q (Left x) = P x
of_either P Q (Right y) = Q y

abbrev none : {X : Type 0} → X → Type 0
none _ = ⊥

-- the code of a kind, with its width and lengths, over the field of the kind
abbrev pub OfKind : CodeKind → ℕ → ℕ → ℕ → StageCode → Type 0
OfKind Open width n k = of_either (of_either (λ c. (c.size.width ≡ width) × (c.size.len ≡ n)) none) (of_either none none)
OfKind Repetition width n k = of_either (of_either none (λ c. (c.size.width ≡ width) × (c.size.len ≡ n))) (of_either none none)
OfKind ReedSolomon width n k =
    of_either (of_either none none) (of_either (λ c. (c.field.width ≡ width) × (c.len ≡ n) × (c.message_len ≡ k)) none)
OfKind ExtendedReedSolomon width n k =
    of_either (of_either none none)
    (of_either none (λ c. ((c.field.base.width ≡ width / 2) × (c.field.c ≡ extension_constant width)) × (c.len ≡ n) × (c.message_len ≡ k)))

abbrev pub IsCode : CodeKind → ℕ → ℕ → ℕ → StageCode → Type 0
IsCode kind width n k c = Sound code_refusal c × OfKind kind width n k c

abbrev pub StageHas : Stage → StageCode → Type 0
StageHas s = IsCode s.kind s.width s.len s.message_len

-- a code for each stage, in their order
abbrev pub StagesHave : List Stage → List StageCode → Type 0
StagesHave [] [] = Unit {0}
StagesHave [] (c ∷ cs) = ⊥
StagesHave (s ∷ ss) [] = ⊥
StagesHave (s ∷ ss) (c ∷ cs) = StageHas s c × StagesHave ss cs

-- the lengths of a Reed-Solomon code over 2^width elements
abbrev pub Lengths : ℕ → ℕ → ℕ → Type 0
Lengths width n k = (n ≤ 2 ^ width) × (1 ≤ k) × (k ≤ n)

-- the parts that a recipe names; they make the pile that it describes
pub record PartsOf (t : Table) (p : Parts) : Type 0 where
  pub chain : IsChain (named_chain t.chain) p.chain
  pub codes : StagesHave (used_stages t) (codes_of p)
  pub described : PileDescribed t (chain_model p.chain) (models_of p)

-- parts make their pile, or are refused as a pile's are
abbrev pub MakesPile : Parts → Result (Pile RecipeChain StageCode) Fault → Type 0
MakesPile p r =
    MatchResult r (λ q. (q.chain ≡ p.chain) × (stages_of recipe_chains stage_codes q ≡ codes_of p) × SoundParts recipe_chains stage_codes p.chain (codes_of p))
    (λ f. parts_refusal recipe_chains stage_codes p.chain (codes_of p) ≡ Some f)

-- the pile that a recipe describes
pub record PileOf (t : Table) (p : Pile RecipeChain StageCode) : Type 0 where
  pub sound : SoundPile recipe_chains stage_codes p
  pub chain : IsChain (named_chain t.chain) p.chain
  pub codes : StagesHave (used_stages t) (stages_of recipe_chains stage_codes p)
  pub described : PileDescribed t (chain_model p.chain) (map code_model (stages_of recipe_chains stage_codes p))
