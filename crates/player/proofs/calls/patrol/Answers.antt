use Rattle.std.proofs.Common.{◌≡◌, ℕ, ◌*◌, List, ◌<◌, ◌^◌, IfOk, subst, sym, rules}
use Rattle.piles.specs.Sound.{pile_refusal}
use Rattle.recipe_piles.specs.Parts.{recipe_chains, stage_codes}
use Rattle.memory_laws.specs.Calls.{Patrolled, Restores}
use Rattle.memory_laws.specs.Lives.{Step}
use Rattle.media_laws.specs.Packed.{BitsPut, first_mark, first_value, packed, row_bytes}
use Rattle.media_laws.proofs.Lent.{fits}
use Rattle.media.specs.Lent.{Bytes}
use Rattle.player.specs.Pages.{Called, Left, Patrols, PutsBack}
use Rattle.player.proofs.Bounds.{patrolled_small}
use Rattle.player.proofs.Laws.{code_of_pile, none_due}
use Rattle.player.proofs.Refusing.{done_or_refused}
use Rattle.player.proofs.Steps.{called, left}
use Rattle.player.proofs.calls.patrol.Goals as goal

pub returns-clause-called : goal.returns-clause-called
returns-clause-called c =
    let r = c.patrol.result in
    let l = c.in_ok-layout.layout in
    let is = c.in_ok-layout.ensures.reads in
    let told = c.patrol.ensures in
    let before = c.args.bytes.now in
    let after = c.patrol.new.self.medium.now.bytes.now in
    let same : after ≡ _ = search rules in
    subst (λ xs. Called c.args.recipe.now c.args.pages before xs c.args.page r (λ t. Patrols t c.args.pages before xs c.args.page r)) same
    (called is.0 l.code is.2 c.args.pages before after c.args.page r _ (pile_refusal recipe_chains stage_codes l.code) (none_due is.0 l.code is.2)
    c.args.recipe.now is.1 (c.in_ok-layout.ensures.single.1 is.0 is.1)
    (λ m m' code. Patrolled m m' code c.args.page r) (λ m m' code w. Step.patrols c.args.page r w) l.cells is.3 c.patrol.new.self.medium.now.pages c.patrol.new.self.medium.now.breadth told.refused
    (λ j. told.joined (record { medium = j.0; code = j.1; joins = j.2 })))

pub returns-clause-bytes : goal.returns-clause-bytes
returns-clause-bytes c =
    let r = c.patrol.result in
    let l = c.in_ok-layout.layout in
    let is = c.in_ok-layout.ensures.reads in
    let before = c.args.bytes.now in
    let after = c.patrol.new.self.medium.now.bytes.now in
    let same : after ≡ _ = search rules in
    subst (λ xs. Left c.args.recipe.now before xs r (λ t. PutsBack t c.args.pages before xs c.args.page)) same
    (left is.0 l.code is.2 c.args.pages c.args.recipe.now is.1 r (after ≡ before)
    (λ n. (u : List ℕ) × Restores (packed before c.args.pages n) (code_of_pile l.code) c.args.page u × (BitsPut before after (first_value n c.args.page) (first_mark n c.args.page) ((code_of_pile l.code).codeword u) n × Bytes after))
    (λ code n. (u : List ℕ) × Restores (packed before c.args.pages n) code c.args.page u × BitsPut before after (first_value n c.args.page) (first_mark n c.args.page) (code.codeword u) n)
    (λ n put. (put.0, put.1, put.2.0))
    l.cells is.3 c.patrol.ensures.bytes)

pub returns-clause-small : goal.returns-clause-small
returns-clause-small c =
    let l = c.in_ok-layout.layout in
    let told = c.patrol.ensures in
    done_or_refused c.args.bytes.now c.args.pages l.cells (code_of_pile l.code) (pile_refusal recipe_chains stage_codes l.code) c.args.page c.patrol.result _ told.refused
    (λ j. let got = told.joined (record { medium = j.0; code = j.1; joins = j.2 }) in patrolled_small _ _ _ _ _ _ (code_of_pile l.code) c.args.page c.patrol.result (fits c.args.pages l.cells (c.args.pages * (2 * row_bytes l.cells)) c.args.bytes.now j.0) got.1)
    (λ f e _. subst (λ x. IfOk x (λ n. n < 2 ^ 31)) (sym e) tt)
