use Rattle.std.proofs.Common.{◌≡◌, ◌*◌, ◌<◌, ◌^◌, IfOk, subst, sym, rules}
use Rattle.piles.specs.Sound.{pile_refusal}
use Rattle.recipe_piles.specs.Parts.{recipe_chains, stage_codes}
use Rattle.memory_laws.specs.Calls.{Written, recording}
use Rattle.memory_laws.specs.Lives.{Step}
use Rattle.media_laws.specs.Packed.{BitsPut, first_mark, first_value, row_bytes}
use Rattle.media_laws.proofs.Lent.{fits}
use Rattle.media.specs.Lent.{Bytes}
use Rattle.player.specs.Pages.{Called, Left, Puts, Writes, page_code}
use Rattle.player.proofs.Bounds.{written_small}
use Rattle.player.proofs.Laws.{code_of_pile, none_due}
use Rattle.player.proofs.Refusing.{done_or_refused}
use Rattle.player.proofs.Steps.{called, left}
use Rattle.player.proofs.calls.write.Goals as goal

pub returns-clause-called : goal.returns-clause-called
returns-clause-called c =
    let r = c.write.result in
    let l = c.in_ok-layout.layout in
    let is = c.in_ok-layout.ensures.reads in
    let told = c.write.ensures in
    let before = c.args.bytes.now in
    let after = c.write.new.self.medium.now.bytes.now in
    let same : after ≡ _ = search rules in
    subst (λ xs. Called c.args.recipe.now c.args.pages before xs c.args.page r (λ t. Writes t c.args.pages before xs c.args.page c.args.payload.now r)) same
    (called is.0 l.code is.2 c.args.pages before after c.args.page r _ (pile_refusal recipe_chains stage_codes l.code) (none_due is.0 l.code is.2)
    c.args.recipe.now is.1 (c.in_ok-layout.ensures.single.1 is.0 is.1)
    (λ m m' code. Written m m' code c.args.page c.args.payload.now r) (λ m m' code w. Step.writes c.args.page c.args.payload.now r w) l.cells is.3 c.write.new.self.medium.now.pages c.write.new.self.medium.now.breadth told.refused
    (λ j. told.joined (record { medium = j.0; code = j.1; joins = j.2 })))

pub returns-clause-bytes : goal.returns-clause-bytes
returns-clause-bytes c =
    let r = c.write.result in
    let l = c.in_ok-layout.layout in
    let is = c.in_ok-layout.ensures.reads in
    let before = c.args.bytes.now in
    let after = c.write.new.self.medium.now.bytes.now in
    let same : after ≡ _ = search rules in
    subst (λ xs. Left c.args.recipe.now before xs r (λ t. Puts t c.args.pages before xs c.args.page (recording (page_code t) c.args.payload.now))) same
    (left is.0 l.code is.2 c.args.pages c.args.recipe.now is.1 r (after ≡ before)
    (λ n. BitsPut before after (first_value n c.args.page) (first_mark n c.args.page) (recording (code_of_pile l.code) c.args.payload.now) n × Bytes after)
    (λ code n. BitsPut before after (first_value n c.args.page) (first_mark n c.args.page) (recording code c.args.payload.now) n)
    (λ n put. put.0)
    l.cells is.3 c.write.ensures.bytes)

pub returns-clause-small : goal.returns-clause-small
returns-clause-small c =
    let l = c.in_ok-layout.layout in
    let told = c.write.ensures in
    let after = c.write.new.self.medium.now in
    done_or_refused c.args.bytes.now c.args.pages l.cells (code_of_pile l.code) (pile_refusal recipe_chains stage_codes l.code) c.args.page c.write.result _ told.refused
    (λ j. let got = told.joined (record { medium = j.0; code = j.1; joins = j.2 }) in written_small c.args.bytes.now after.bytes.now c.args.pages after.pages l.cells after.breadth (code_of_pile l.code) c.args.page c.write.result c.args.payload.now (fits after.pages after.breadth (after.pages * (2 * row_bytes after.breadth)) after.bytes.now got.0) got.1)
    (λ f e _. subst (λ x. IfOk x (λ n. n < 2 ^ 31)) (sym e) tt)
