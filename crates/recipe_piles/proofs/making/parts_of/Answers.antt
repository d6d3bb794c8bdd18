use Rattle.std.proofs.Common.{◌<◌, ◌≤◌, List, length, take, sym, subst}
use Rattle.std.specs.List.{AllByRecursion}
use Rattle.recipes.specs.declared.table.Stage.{Stage}
use Rattle.recipes.specs.Totals.{used_stages}
use Rattle.recipes.proofs.Bounds.{few_used, some_used}
use Rattle.recipe_pile_laws.specs.Named.{named_chain}
use Rattle.recipe_pile_laws.specs.Numbers.{Makeable}
use Rattle.recipe_pile_laws.proofs.Piles.{all_makeable}
use Rattle.recipe_piles.specs.Made.{IsChain, StagesHave}
use Rattle.recipe_piles.specs.Parts.{RecipeChain, StageCode}
use Rattle.recipe_piles.proofs.Answering.{parts_of}
use Rattle.recipe_piles.proofs.making.parts_of.Goals as goal

pub make_codes-requires : goal.make_codes-requires
make_codes-requires c =
    let t = c.args.recipe.now.table in
    let h = c.args.recipe.now.lawful in
    subst (λ (ss : List Stage). AllByRecursion Makeable ss × ((0 < length ss) × (length ss ≤ 5))) (sym c.stages-stages.ensures) (all_makeable t h, (some_used t h, few_used t h))

pub returns : goal.returns
returns c =
    let t = c.args.recipe.now.table in
    let have = subst (λ (ss : List Stage). StagesHave ss (take (length c.stages-stages.result.now) c.in_ok-codes.codes)) c.stages-stages.ensures c.in_ok-codes.ensures in
    parts_of t c.args.recipe.now.lawful c.new.result
    (subst (λ (h : RecipeChain). IsChain (named_chain t.chain) h) (sym c.new.ensures.chain) c.in_ok-chain.ensures)
    (subst (λ (cs : List StageCode). StagesHave (used_stages t) cs) (sym c.new.ensures.codes) have)
