use Rattle.std.proofs.Common.{◌≡◌, ℕ, ◌*◌, ◌%◌, ◌^◌, length, None, ap, ◌∙◌, subst₂}
use Rattle.words.specs.Buffers.{either}
use Rattle.words.proofs.Rises.{checked_ok}
use Rattle.codes.proofs.Working.{shifted}
use Rattle.stage_laws.specs.Promises.{length_refusal, first_large}
use Rattle.stage_laws.proofs.Columns.{fitting}
use Rattle.stages.proofs.choice.choose_soundly.Goals as goal

pub search-requires-clause-fits : goal.search-requires-clause-fits
search-requires-clause-fits g c =
    let m = g.C.Code.model c.args.code.now in
    let lawful = g.met.C.Code.lawful c.args.code.now c.requires in
    let es = c.args.columns.estimates.now in
    let word = c.args.word.now in
    let len = c.len-len.ensures c.requires in
    let symbols = ap (λ w. 1 * 2 ^ w % 18446744073709551616) (c.width.ensures c.requires) ∙ shifted m.width lawful.narrow in
    let none = subst₂ (λ (n s : ℕ). either (length_refusal n (length es)) (either (length_refusal n (length word)) (first_large s c.args.columns.inner 0 es)) ≡ None) len symbols (checked_ok _ c.in_ok-check.ensures) in
    (fitting m c.args.columns.inner es word none).0
