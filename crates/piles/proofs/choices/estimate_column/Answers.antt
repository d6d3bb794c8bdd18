use Rattle.std.proofs.Common.{◌≡◌, ℕ, suc, ◌-◌, ◌≤◌, List, length, take, replicate, sym, ap, ◌∙◌, subst, add-one, arith, MatchResult}
use Rattle.std.proofs.lemmas.List.{length-take-le}
use Rattle.chains.specs.Model.{LabelsFrom}
use Rattle.chains.specs.Promises.{Estimated, Estimates}
use Rattle.pile_laws.specs.Build.{labels_at}
use Rattle.pile_laws.specs.Flat.{words_in}
use Rattle.pile_laws.proofs.Calls.{estimated_answer}
use Rattle.piles.proofs.choices.estimate_column.Goals as goal

pub returns : goal.returns
returns g c =
    let chain = c.args.chain.now in
    let h = g.H.Chain.model chain in
    let s = c.requires.chain.0 in
    let law = g.met.H.Chain.lawful chain s in
    let k = c.args.chosen in
    let labels = c.gather.new.labels in
    let cells = c.args.cells.now in
    let marks = c.args.marks.now in
    let few : k ≤ 5 = omega (arith, c.requires.chain.1.0.1, law.few_stages) in
    let room : length (take k (replicate {A = ℕ} 5 0)) ≡ k = length-take-le k (replicate {A = ℕ} 5 0) few in
    let is : labels ≡ labels_at (words_in c.args.columns k c.args.words.now) c.args.j = c.gather.ensures ∙ ap (λ (n : ℕ). labels_at (words_in c.args.columns n c.args.words.now) c.args.j) room in
    let long : length labels ≡ suc k - 1 = c.gather.auto.labels ∙ room ∙ omega arith in
    let answer = estimated_answer h law (suc k) labels cells marks c.estimate.result c.requires.chain.1.0 long (subst (LabelsFrom h.width 1) (sym is) c.requires.words.1.1) c.requires.chain.1.1.0 c.requires.chain.1.1.1 (subst (λ (i : ℕ). Estimated h i labels cells marks c.estimate.result) (add-one k) (c.estimate.ensures.sound s)) in
    subst (λ (ls : List ℕ). MatchResult c.estimate.result (Estimates h (suc k) ls cells marks) (λ _. ⊥)) is answer
