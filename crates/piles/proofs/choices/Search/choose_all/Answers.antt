use Rattle.std.proofs.Common.{◌≡◌, ℕ, suc, map, length, sym, ap, ◌∙◌, subst, arith}
use Rattle.words.specs.Soundness.{Sound}
use Rattle.words.specs.declared.fault.Kind.TheVariants.{NoCodeword}
use Rattle.words.specs.declared.fault.Layer.TheVariants.{Code}
use Rattle.words.specs.Faults.{fault}
use Rattle.words.proofs.Rises.{raised}
use Rattle.pile_laws.specs.Flat.{words_in}
use Rattle.pile_laws.specs.Stages.{Choices}
use Rattle.pile_laws.proofs.Flat.{length_words_in}
use Rattle.pile_laws.proofs.Scans.{each_lawful, length_models}
use Rattle.pile_laws.proofs.Stepping.{choices_step}
use Rattle.piles.proofs.choices.Search.choose_all.Goals as goal

pub returns-in_err-choose_stage : goal.returns-in_err-choose_stage
returns-in_err-choose_stage g c =
    let k = c.loop-chosen.chosen in
    let words = words_in c.args.self.now.columns k c.loop-chosen.words in
    let many = length_words_in c.args.self.now.columns k c.loop-chosen.words in
    let refused = c.in_err-choose_stage.ensures in
    rw (raised c.from_residual.result c.from_residual.ensures.1)
    (words, c.loop-chosen.invariant, omega (arith, many, length_models g.A.Code.model c.args.self.now.codes.now, c.loop-chosen-test.true), refused.1, refused.0 ∙ ap (λ (i : ℕ). fault NoCodeword Code (suc i)) (sym many))

pub loop-chosen-preserved : goal.loop-chosen-preserved
loop-chosen-preserved g c =
    let model = g.A.Code.model in
    let codes = c.args.self.now.codes.now in
    let laws = each_lawful model (Sound g.A.Code.refusal) codes g.met.A.Code.lawful c.requires.search.parts.1 in
    let chosen = c.in_ok-choose_stage.ensures in
    choices_step (g.H.Chain.model c.args.self.now.chain.now) (map model codes) laws c.requires.search.parts.2 c.args.self.now.word.now c.args.self.now.marks.now c.args.self.now.columns c.requires.search.columns c.loop-chosen.chosen c.loop-chosen.words c.loop-chosen.invariant c.choose_stage.new.words chosen.0 chosen.1

pub returns : goal.returns
returns g c =
    let model = g.A.Code.model in
    let codes = c.args.self.now.codes.now in
    let h = g.H.Chain.model c.args.self.now.chain.now in
    let all : c.loop-chosen.chosen ≡ length codes = omega (arith, c.loop-chosen.auto.chosen-end, c.loop-chosen-test.false) in
    subst (λ (s : ℕ). Choices h (map model codes) c.args.self.now.word.now c.args.self.now.marks.now (words_in c.args.self.now.columns s c.loop-chosen.words)) all c.loop-chosen.invariant
