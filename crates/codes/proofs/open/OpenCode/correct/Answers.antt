use Rattle.std.proofs.Common.{◌≡◌, ℕ, ◌<◌, ◌≢◌, length, get_or, Err, sym, refl, ◌∙◌, subst, arith}
use Rattle.std.proofs.ByRecursion.{All-get_or, All-from_get_or}
use Rattle.std.proofs.lemmas.Bool.{eqb-true, eqb-false}
use Rattle.codes.specs.Kinds.{open_code}
use Rattle.codes.specs.Promises.{Corrected}
use Rattle.codes.specs.Simple.{blank_harms, no_harm}
use Rattle.codes.proofs.Working.{correct_passes, damage_fits, corrected, uncorrected}
use Rattle.codes.proofs.open.OpenCode.correct.Goals as goal

pub returns-then-contains-clause-sound : goal.returns-then-contains-clause-sound
returns-then-contains-clause-sound c =
    let size = c.args.self.now.size in
    let model = open_code size.width size.len in
    let word = c.args.word.now in
    let marks = c.args.marks.now in
    let none = correct_passes model c.parameters.ensures word marks c.in_ok-check_correct.ensures in
    let fit = damage_fits model word marks none in
    let blank = c.if-contains.ensures.cases in
    let set : get_or marks blank.0 0 ≢ 0 = λ e. let one = eqb-true _ _ (blank.2 0) in omega (arith, one, e) in
    λ _. subst (λ f. Corrected model word marks word (Err f)) (sym c.new.ensures) (uncorrected model word marks 0 none refl
    (λ u near. let harmed = blank_harms word marks u blank.0 (fit.1.0 ∙ sym fit.0.0) (near.0.0 ∙ sym fit.0.0) blank.1 set in omega (arith, harmed, near.1)))

pub returns-clause-sound : goal.returns-clause-sound
returns-clause-sound c =
    let size = c.args.self.now.size in
    let model = open_code size.width size.len in
    let word = c.args.word.now in
    let marks = c.args.marks.now in
    let none = correct_passes model c.parameters.ensures word marks c.in_ok-check_correct.ensures in
    let fit = damage_fits model word marks none in
    let unset : (i : ℕ) → i < length marks → get_or marks i 0 ≡ 0 = λ i h.
    let small = All-get_or (λ m. m < 2) marks i 0 h fit.1.1 in
    let other = eqb-false _ _ (c.if-contains.ensures.cases i 0 (omega arith) h) in
    omega (arith, small, other) in
    let clean = no_harm word marks (All-from_get_or (λ m. m ≡ 0) marks 0 unset) in
    λ _. corrected model word marks word 0 none word (fit.0, omega (arith, clean)) refl (sym clean)
