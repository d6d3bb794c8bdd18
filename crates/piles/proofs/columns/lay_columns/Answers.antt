use Rattle.std.proofs.Common.{◌≡◌, ℕ, ◌+◌, ◌-◌, ◌*◌, length, take, ap, ◌∙◌, ap₂, arith}
use borrow.Rule.Slice.PartMut.{put_mid}
use Rattle.pile_laws.specs.Build.{labels_at}
use Rattle.pile_laws.specs.Flat.{words_in}
use Rattle.pile_laws.proofs.Columns.{laid_more}
use Rattle.pile_laws.proofs.Flat.{part_in}
use Rattle.piles.proofs.columns.lay_columns.Goals as goal

pub loop-j-preserved : goal.loop-j-preserved
loop-j-preserved g c =
    let h = g.H.Chain.model c.args.chain.now in
    let law = g.met.H.Chain.lawful c.args.chain.now c.requires.0 in
    let j = c.loop-j.j in
    let b = c.breadth-breadth.result in
    let ws = words_in c.args.columns h.stages c.args.words.now in
    let is = c.in_ok-lay_column.ensures in
    let ly = ap length is ∙ (law.words (labels_at ws j) (c.requires.1.1.1 j c.loop-j-test.true)).0 in
    let room = part_in h.breadth c.args.columns j c.loop-j-test.true in
    let start : b * j ≡ h.breadth * j = ap (λ (m : ℕ). m * j) c.breadth-breadth.ensures in
    let span : b * j + b - b * j ≡ h.breadth = omega (arith, c.breadth-breadth.ensures) in
    ap₂ (λ (a k : ℕ). take (h.breadth * (j + 1)) (put_mid a k c.loop-j.cells c.lay_column.new.cells)) start span
    ∙ laid_more h ws h.breadth j c.loop-j.cells c.lay_column.new.cells (omega (arith, room, c.requires.1.1.0, c.loop-j.auto.cells)) ly is c.loop-j.invariant
