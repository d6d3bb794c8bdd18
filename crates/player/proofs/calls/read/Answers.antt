use Rattle.std.proofs.Common.{◌≡◌, ℕ, ◌*◌, ◌<◌, ◌^◌, IfErr, IfOk, Result, subst, sym, rules}
use Rattle.words.specs.declared.fault.Fault.{Fault}
use Rattle.piles.specs.Sound.{pile_refusal}
use Rattle.recipe_piles.specs.Parts.{recipe_chains, stage_codes}
use Rattle.memory_laws.specs.Calls.{Recalled}
use Rattle.memory_laws.specs.Lives.{Step}
use Rattle.media_laws.specs.Packed.{row_bytes}
use Rattle.media_laws.proofs.Lent.{fits}
use Rattle.player.specs.Pages.{Called, Reads}
use Rattle.player.proofs.Bounds.{recalled_kept, recalled_small}
use Rattle.player.proofs.Laws.{code_of_pile, none_due}
use Rattle.player.proofs.Refusing.{done_or_refused}
use Rattle.player.proofs.Steps.{called}
use Rattle.player.proofs.calls.read.Goals as goal

pub returns-clause-called : goal.returns-clause-called
returns-clause-called c =
    let r = c.read-2.result in
    let l = c.in_ok-layout.layout in
    let is = c.in_ok-layout.ensures.reads in
    let told = c.read-2.ensures in
    let before = c.args.bytes.now in
    let after = c.read-2.new.self.medium.now.bytes.now in
    let same : after ≡ _ = search rules in
    subst (λ xs. Called c.args.recipe.now c.args.pages before xs c.args.page r (λ t. Reads t c.args.pages before xs c.args.page c.args.payload.now c.read-2.new.payload r)) same
    (called is.0 l.code is.2 c.args.pages before after c.args.page r _ (pile_refusal recipe_chains stage_codes l.code) (none_due is.0 l.code is.2)
    c.args.recipe.now is.1 (c.in_ok-layout.ensures.single.1 is.0 is.1)
    (λ m m' code. Recalled m m' code c.args.page c.args.payload.now c.read-2.new.payload r) (λ m m' code w. Step.reads c.args.page c.args.payload.now c.read-2.new.payload r w) l.cells is.3 c.read-2.new.self.medium.now.pages c.read-2.new.self.medium.now.breadth told.refused
    (λ j. told.joined (record { medium = j.0; code = j.1; joins = j.2 })))

pub returns-clause-small : goal.returns-clause-small
returns-clause-small c =
    let l = c.in_ok-layout.layout in
    let told = c.read-2.ensures in
    done_or_refused c.args.bytes.now c.args.pages l.cells (code_of_pile l.code) (pile_refusal recipe_chains stage_codes l.code) c.args.page c.read-2.result _ told.refused
    (λ j. let got = told.joined (record { medium = j.0; code = j.1; joins = j.2 }) in recalled_small _ _ _ _ _ _ (code_of_pile l.code) c.args.page c.read-2.result c.args.payload.now c.read-2.new.payload (fits c.args.pages l.cells (c.args.pages * (2 * row_bytes l.cells)) c.args.bytes.now j.0) got.1)
    (λ f e _. subst (λ x. IfOk x (λ n. n < 2 ^ 31)) (sym e) tt)

pub returns-clause-payload : goal.returns-clause-payload
returns-clause-payload c =
    let l = c.in_ok-layout.layout in
    let told = c.read-2.ensures in
    let Stays : Result ℕ Fault → Type 0 = λ x. IfErr x (λ _. c.read-2.new.payload ≡ c.args.payload.now) in
    done_or_refused c.args.bytes.now c.args.pages l.cells (code_of_pile l.code) (pile_refusal recipe_chains stage_codes l.code) c.args.page c.read-2.result _ told.refused
    (λ j. recalled_kept _ _ (code_of_pile l.code) c.args.page c.args.payload.now c.read-2.new.payload c.read-2.result (told.joined (record { medium = j.0; code = j.1; joins = j.2 })).1)
    (λ f e stays. subst Stays (sym e) stays.1)
