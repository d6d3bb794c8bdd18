use Rattle.std.proofs.Common.{◌≡◌, ℕ, ◌<◌, ◌≤◌, replicate, sym, ap, ◌∙◌, subst, arith, rules}
use Rattle.std.specs.List.{AllByRecursion}
use Rattle.std.proofs.ByRecursion.{All-from_get_or}
use Rattle.std.proofs.lemmas.List.{length-take-le}
use Rattle.chains.specs.Model.{Row}
use Rattle.pile_laws.specs.Build.{labels_at}
use Rattle.pile_laws.specs.Flat.{words_in}
use Rattle.pile_laws.proofs.Calls.{worded_answer}
use Rattle.piles.proofs.columns.lay_column.Goals as goal

pub returns : goal.returns
returns g c =
    let chain = c.args.chain.now in
    let h = g.H.Chain.model chain in
    let s = c.requires.0 in
    let law = g.met.H.Chain.lawful chain s in
    let cells = c.args.cells.now in
    let labels = c.gather.new.labels in
    let few : c.stages.result ≤ 5 = omega (arith, c.stages.ensures, law.few_stages) in
    let long = length-take-le c.stages.result (replicate 5 0) few ∙ c.stages.ensures in
    let is : labels ≡ labels_at (words_in c.args.columns h.stages c.args.words.now) c.args.j = c.gather.ensures ∙ ap (λ (k : ℕ). labels_at (words_in c.args.columns k c.args.words.now) c.args.j) long in
    let bytes : AllByRecursion (λ x. x < 256) cells = All-from_get_or (λ x. x < 256) cells 0 (λ i l. search rules) in
    let answer = worded_answer h law labels cells c.word_of.new.cells c.word_of.result (subst (Row h) (sym is) c.requires.1.1.1.1) c.requires.1.1.1.0 bytes (c.word_of.ensures.sound s) in
    rw answer.0 (answer.1 ∙ ap h.word is)
