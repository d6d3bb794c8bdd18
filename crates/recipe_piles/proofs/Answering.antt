-- What the codes of stages mean, one after the other. Assumes nothing.
use Rattle.std.proofs.Common.{◌≡◌, ℕ, ◌+◌, ◌<◌, List, [], ◌∷◌, ◌++◌, map, length, get_or, take, set, sym, refl, ap, ◌∙◌, subst, ap₂}
use Rattle.std.proofs.lemmas.List.{take_more, take_more_set}
use Rattle.field_laws.specs.Fields.{FieldModel}
use Rattle.field_laws.specs.Polynomials.{polynomial}
use Rattle.field_laws.specs.Extensions.{extension}
use Rattle.either.specs.declared.Either.TheVariants.{Left, Right}
use Rattle.codes.specs.Kinds.{open_code, repetition_code}
use Rattle.reed_solomon_laws.specs.Words.{reed_solomon}
use Rattle.recipes.specs.declared.kinds.CodeKind.{CodeKind}
use Rattle.recipes.specs.declared.kinds.CodeKind.TheVariants.{Open, ReedSolomon, Repetition, ExtendedReedSolomon}
use Rattle.recipes.specs.declared.table.Stage.{Stage}
use Rattle.recipes.specs.declared.table.Table.{Table}
use Rattle.recipes.specs.Meaning.{Lawful}
use Rattle.recipes.specs.Stages.{blank}
use Rattle.recipes.specs.Totals.{used_stages}
use Rattle.recipe_pile_laws.specs.Named.{named_chain, named_code, stage_code}
use Rattle.recipe_pile_laws.specs.Numbers.{PileDescribed}
use Rattle.recipe_pile_laws.proofs.Piles.{pile_described}
use Rattle.recipe_piles.specs.declared.parts.Parts.{Parts}
use Rattle.recipe_piles.specs.Parts.{StageCode, code_model, codes_of, models_of}
use Rattle.recipe_piles.specs.Made.{IsChain, OfKind, PartsOf, StageHas, StagesHave}

module _ (width n k : ℕ) where
  over : (f : FieldModel) (g : FieldModel) (n' k' : ℕ) → f ≡ g → n' ≡ n → k' ≡ k → reed_solomon f n' k' ≡ reed_solomon g n k
  over f g n' k' ef en ek = ap (λ x. reed_solomon x n' k') ef ∙ ap₂ (reed_solomon g) en ek

  means : (kind : CodeKind) (c : StageCode) → OfKind kind width n k c → code_model c ≡ named_code kind width n k
  means Open (Left (Left c)) is = ap₂ open_code is.0 is.1
  means Open (Left (Right c)) is = absurd is
  means Open (Right (Left c)) is = absurd is
  means Open (Right (Right c)) is = absurd is
  means Repetition (Left (Left c)) is = absurd is
  means Repetition (Left (Right c)) is = ap₂ repetition_code is.0 is.1
  means Repetition (Right (Left c)) is = absurd is
  means Repetition (Right (Right c)) is = absurd is
  means ReedSolomon (Left (Left c)) is = absurd is
  means ReedSolomon (Left (Right c)) is = absurd is
  means ReedSolomon (Right (Left c)) is = over _ _ _ _ (ap polynomial is.0) is.1 is.2
  means ReedSolomon (Right (Right c)) is = absurd is
  means ExtendedReedSolomon (Left (Left c)) is = absurd is
  means ExtendedReedSolomon (Left (Right c)) is = absurd is
  means ExtendedReedSolomon (Right (Left c)) is = absurd is
  means ExtendedReedSolomon (Right (Right c)) is =
      over _ _ _ _ (ap₂ (λ m c. extension (polynomial m) c) is.0.0 is.0.1) is.1 is.2

pub stages_mean : (ss : List Stage) (cs : List StageCode) → StagesHave ss cs → map code_model cs ≡ map stage_code ss
stages_mean [] [] have = refl
stages_mean [] (c ∷ cs) have = absurd have
stages_mean (s ∷ ss) [] have = absurd have
stages_mean (s ∷ ss) (c ∷ cs) have =
    ap₂ ◌∷◌ (means s.width s.len s.message_len s.kind c have.0.1) (stages_mean ss cs have.1)

pub stages_push : (ss : List Stage) (cs : List StageCode) (s : Stage) (c : StageCode) → StagesHave ss cs → StageHas s c → StagesHave (ss ++ (s ∷ [])) (cs ++ (c ∷ []))
stages_push [] [] s c have one = (one, tt)
stages_push [] (b ∷ cs) s c have one = absurd have
stages_push (x ∷ ss) [] s c have one = absurd have
stages_push (x ∷ ss) (b ∷ cs) s c have one = (have.0, stages_push ss cs s c have.1 one)

pub stages_more : (ss : List Stage) (cs : List StageCode) (i : ℕ) (c : StageCode) → i < length ss → i < length cs → StagesHave (take i ss) (take i cs) → StageHas (get_or ss i blank) c → StagesHave (take (i + 1) ss) (take (i + 1) (set cs i c))
stages_more ss cs i c ls lc have one =
    subst (λ xs. StagesHave (take (i + 1) ss) xs) (sym (take_more_set cs i c lc))
    (subst (λ xs. StagesHave xs (take i cs ++ (c ∷ []))) (sym (take_more ss i blank ls)) (stages_push (take i ss) (take i cs) (get_or ss i blank) c have one))

-- the parts that are made for a recipe
pub parts_of : (t : Table) → ∥ Lawful t ∥₁ → (p : Parts) → IsChain (named_chain t.chain) p.chain → StagesHave (used_stages t) (codes_of p) → PartsOf t p
parts_of t lawful p chain have =
    let same = stages_mean (used_stages t) (codes_of p) have in
    record {
      chain = chain;
      codes = have;
      described = subst (λ h. PileDescribed t h (models_of p)) (sym chain.1)
          (subst (λ cs. PileDescribed t (named_chain t.chain) cs) (sym same) (pile_described t lawful));
    }
