-- The code of a recipe's pages is lawful. Assumes nothing.
use Rattle.std.proofs.Common.{◌≡◌, None, ap₂}
use Rattle.words.specs.Soundness.{Sound}
use Rattle.field_laws.specs.Polynomials.{polynomial}
use Rattle.field_laws.specs.Extensions.{extension}
use Rattle.field_laws.proofs.PolynomialLaws.{polynomial_laws}
use Rattle.fields.specs.Extending.{extension_lawful, extension_refusal}
use Rattle.either.specs.declared.Either.TheVariants.{Left, Right}
use Rattle.codes.specs.Model.{CodeModel, Lawful}
use Rattle.codes.specs.Simple.{open_lawful}
use Rattle.codes.specs.Repeats.{repetition_lawful}
use Rattle.reed_solomon_laws.proofs.Fitting.{code_lawful}
use Rattle.chains.specs.Model.{LawfulChain}
use Rattle.chains.specs.MullerLaw.{muller_lawful}
use Rattle.chains.specs.EvenWords.{even_lawful}
use Rattle.recipes.specs.declared.table.Table.{Table}
use Rattle.recipes.specs.Totals.{used_stages}
use Rattle.pile_laws.specs.Pile.{pile}
use Rattle.piles.specs.declared.pile.Pile.{Pile}
use Rattle.piles.specs.FromRefusal.{none_refused, parts_lawful}
use Rattle.piles.specs.Sound.{pile_model, pile_refusal, stages_of}
use Rattle.recipe_piles.specs.Made.{PileOf}
use Rattle.recipe_piles.specs.Parts.{RecipeChain, StageCode, chain_model, chain_refusal, code_model, code_refusal, recipe_chains, stage_codes}
use Rattle.recipe_piles.proofs.Answering.{stages_mean}
use Rattle.player.specs.Pages.{page_code}

chain_lawful : (h : RecipeChain) → LawfulChain (chain_model h)
chain_lawful (Left h) = muller_lawful h.r h.range
chain_lawful (Right h) = even_lawful h.n h.range

stage_lawful : (c : StageCode) → Sound code_refusal c → Lawful (code_model c)
stage_lawful (Left (Left c)) s =
    open_lawful c.size.width c.size.len ((c.size.some_width, c.size.narrow), (c.size.some_places, c.size.short))
stage_lawful (Left (Right c)) s =
    repetition_lawful c.size.width c.size.len ((c.size.some_width, c.size.narrow), (c.size.some_places, c.size.short))
stage_lawful (Right (Left c)) s =
    let f = c.field in
    code_lawful (polynomial f.width) c.len c.message_len None (λ _. polynomial_laws f.width f.range.0 f.range.1) s
stage_lawful (Right (Right c)) s =
    let base = c.field.base in
    let p = polynomial base.width in
    code_lawful (extension p c.field.c) c.len c.message_len (extension_refusal p c.field.c)
    (extension_lawful None p (λ _. polynomial_laws base.width base.range.0 base.range.1) c.field.c) s

abbrev pub code_of_pile : Pile RecipeChain StageCode → CodeModel
code_of_pile p = pile_model recipe_chains stage_codes p

pub is_page_code : (t : Table) (p : Pile RecipeChain StageCode) → PileOf t p → code_of_pile p ≡ page_code t
is_page_code t p is = ap₂ pile is.chain.1 (stages_mean (used_stages t) (stages_of recipe_chains stage_codes p) is.codes)

-- the pile is sound, and so lawful
pub none_due : (t : Table) (p : Pile RecipeChain StageCode) → PileOf t p → pile_refusal recipe_chains stage_codes p ≡ None
none_due t p is = none_refused recipe_chains stage_codes p.chain (stages_of recipe_chains stage_codes p) is.sound

pub model_lawful : (t : Table) (p : Pile RecipeChain StageCode) → PileOf t p → Lawful (code_of_pile p)
model_lawful t p is =
    parts_lawful chain_model chain_refusal code_model code_refusal (λ h _. chain_lawful h) stage_lawful p.chain (stages_of recipe_chains stage_codes p) (none_due t p is)
