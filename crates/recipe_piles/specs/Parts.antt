-- What the chains and the codes that recipes name mean. Assumes nothing.
use Rattle.std.specs.Prelude.{List, map, take, None, Option}
use Rattle.words.specs.declared.fault.Fault.{Fault}
use Rattle.words.specs.Buffers.{either}
use Rattle.field_laws.specs.Polynomials.{polynomial}
use Rattle.field_laws.specs.Extensions.{extension}
use Rattle.fields.specs.declared.polynomial.Polynomial.{Polynomial}
use Rattle.fields.specs.declared.extension.Extension.{Extension}
use Rattle.fields.specs.Extending.{extension_refusal}
use Rattle.either.specs.declared.Either.{Either}
use Rattle.codes.specs.Either.{either_model, either_refusal}
use Rattle.codes.specs.declared.code.Code.{Ghosts as CodeGhosts}
use Rattle.codes.specs.Model.{CodeModel}
use Rattle.codes.specs.declared.open.Open.{Open}
use Rattle.codes.specs.declared.repetition.Repetition.{Repetition}
use Rattle.codes.specs.Kinds.{open_code, repetition_code}
use Rattle.reed_solomon.specs.declared.code.ReedSolomon.{ReedSolomon}
use Rattle.reed_solomon_laws.specs.Words.{kind_refusal, reed_solomon}
use Rattle.chains.specs.declared.chain.Chain.{Ghosts as ChainGhosts}
use Rattle.chains.specs.declared.reed_muller.ReedMuller.{ReedMuller}
use Rattle.chains.specs.declared.even.Even.{Even}
use Rattle.chains.specs.Model.{ChainModel}
use Rattle.chains.specs.ReedMuller.{muller_chain}
use Rattle.chains.specs.Even.{even_chain}
use Rattle.recipe_piles.specs.declared.parts.Parts.{Parts}
use Rattle.chains.specs.Either as chains

abbrev pub RecipeChain : Type 0
RecipeChain = Either ReedMuller Even

abbrev pub chain_model : RecipeChain → ChainModel
chain_model = chains.either_chain (λ h. muller_chain h.r) (λ h. even_chain h.n)

abbrev pub chain_refusal : RecipeChain → Option Fault
chain_refusal = chains.either_refusal (λ _. None) (λ _. None)

abbrev pub recipe_chains : ChainGhosts RecipeChain
recipe_chains = record { model = chain_model; refusal = chain_refusal }

abbrev pub StageCode : Type 0
StageCode = Either (Either Open Repetition) (Either (ReedSolomon Polynomial) (ReedSolomon (Extension Polynomial)))

abbrev pub code_model : StageCode → CodeModel
code_model =
    either_model (either_model (λ c. open_code c.size.width c.size.len) (λ c. repetition_code c.size.width c.size.len))
    (either_model (λ c. reed_solomon (polynomial c.field.width) c.len c.message_len)
    (λ c. reed_solomon (extension (polynomial c.field.base.width) c.field.c) c.len c.message_len))

-- a Reed-Solomon code is refused for its field first, and then for its lengths
abbrev pub code_refusal : StageCode → Option Fault
code_refusal =
    either_refusal (either_refusal (λ _. None) (λ _. None))
    (either_refusal (λ c. kind_refusal (polynomial c.field.width) c.len c.message_len)
    (λ c. either (extension_refusal (polynomial c.field.base.width) c.field.c) (kind_refusal (extension (polynomial c.field.base.width) c.field.c) c.len c.message_len)))

abbrev pub stage_codes : CodeGhosts StageCode
stage_codes = record { model = code_model; refusal = code_refusal }

-- the codes of the stages, first to last
abbrev pub codes_of : Parts → List StageCode
codes_of p = take p.stages p.codes

abbrev pub models_of : Parts → List CodeModel
models_of p = map code_model (codes_of p)
