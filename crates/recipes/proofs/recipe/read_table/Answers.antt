use Rattle.std.proofs.Common.{◌≡◌, ℕ, ◌+◌, ◌*◌, ◌<◌, true, get_or, set, None, sym, refl, ap, ◌∙◌, subst, ap₂, subst₂, arith}
use Rattle.words.proofs.Rises.{raised}
use Rattle.recipes.specs.declared.kinds.ChainKind.{ChainKind}
use Rattle.recipes.specs.Chains.{Known, stages_of, width_at}
use Rattle.recipes.specs.Codes.{fits_kind}
use Rattle.recipes.specs.Meaning.{two_bytes}
use Rattle.recipes.specs.Stages.{stage_of}
use Rattle.recipes.specs.Rules.{first_broken, rules_from}
use Rattle.recipes.proofs.Breaking.{rules_more, stage_passes}
use Rattle.recipes.proofs.Filling.{few_stages, few_columns, message_within, filled_more}
use Rattle.recipes.proofs.Naming.{chain_of_byte, code_of_byte}
use Rattle.recipes.proofs.recipe.read_table.Goals as goal

pub returns-in_err-fields : goal.returns-in_err-fields
returns-in_err-fields c =
    let b = c.args.bytes.now in
    let chain = c.args.chain in
    let step = rules_more b chain c.stages-stages.result c.loop-i.i _ c.loop-i-test.true c.in_err-fields.ensures in
    rw (raised _ c.from_residual.ensures.1)
    (ap (λ s. first_broken (rules_from b chain s 0)) (sym c.stages-stages.ensures) ∙ sym c.loop-i.invariant.2 ∙ step)

pub fill-requires : goal.fill-requires
fill-requires c =
    let filled = c.loop-i.invariant.0 in
    let fields = c.in_ok-fields.ensures in
    let known = (chain_of_byte (get_or c.args.bytes.now 0 0) c.args.chain c.requires.named).0 in
    let few = few_columns c.args.chain c.args.columns known c.requires.cells_fit in
    let within = message_within c.in_ok-fields.fields.kind (width_at c.args.chain c.loop-i.i) c.args.columns c.in_ok-fields.fields.message_len c.requires.some_columns fields.3 in (
      subst Known (sym filled.chain_is) known,
      (
        subst (λ (h : ChainKind). c.loop-i.i < stages_of h) (sym filled.chain_is) (omega (arith, c.stages-stages.ensures)),
        (omega (arith, filled.columns_are, within.1), omega (arith, filled.columns_are, few)),
      ),
    )

-- the stage that was read is filled in, and breaks no rule
pub loop-i-preserved : goal.loop-i-preserved
loop-i-preserved c =
    let b = c.args.bytes.now in
    let chain = c.args.chain in
    let columns = c.args.columns in
    let i = c.loop-i.i in
    let filled = c.loop-i.invariant.0 in
    let fields = c.in_ok-fields.ensures in
    let kind = c.in_ok-fields.fields.kind in
    let k = c.in_ok-fields.fields.message_len in
    let code = code_of_byte (get_or b (3 + 3 * i) 0) (width_at chain i) kind fields.1 in
    let known = (chain_of_byte (get_or c.args.bytes.now 0 0) c.args.chain c.requires.named).0 in
    let fits : fits_kind kind (width_at chain i) (two_bytes b 1) (two_bytes b (4 + 3 * i)) ≡ true = subst₂ (λ (n m : ℕ). fits_kind kind (width_at chain i) n m ≡ true) c.requires.spelled fields.2 fields.3 in
    let stages : c.fill.new.self.stages ≡ set c.loop-i.table.stages i (stage_of chain columns i kind k) = c.fill.ensures.stages ∙ ap₂ (λ h n. set c.loop-i.table.stages i (stage_of h n i kind k)) filled.chain_is filled.columns_are in
    let step = rules_more b chain c.stages-stages.result i None c.loop-i-test.true (stage_passes b chain i kind fields.0 fields.1 fits) in (
      filled_more b chain columns i c.loop-i.table c.fill.new.self (stage_of chain columns i kind k) (omega (arith, c.stages-stages.ensures, few_stages chain known)) filled c.fill.ensures.chain c.fill.ensures.columns stages (refl, code.0, fields.3) (code.1, sym fields.2),
      omega (arith, fields.0),
      sym step ∙ c.loop-i.invariant.2,
    )
