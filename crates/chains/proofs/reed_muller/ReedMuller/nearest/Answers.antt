use Rattle.std.proofs.Common.{◌≡◌, ℕ, ◌+◌, ◌-◌, ◌*◌, ◌%◌, ◌^◌, ◌<◌, ◌≤◌, subst, arith}
use Rattle.std.proofs.lemmas.Nat.{one_shl}
use Rattle.chains.proofs.MullerEstimates.{label_room, bits_short, nearest_some, nearest_none}
use Rattle.chains.proofs.reed_muller.ReedMuller.nearest.Goals as goal

-- the distance as the program shifts it
distance : (r i : ℕ) → r ≤ 4 → i ≤ r + 1 → (1 * 2 ^ (i - 1)) % 18446744073709551616 ≡ 2 ^ (i - 1)
distance r i few high = one_shl (i - 1) 64 (omega arith)

pub first_label-label-requires : goal.first_label-label-requires
first_label-label-requires c =
    let r = c.args.self.now.r in
    let range = c.args.self.now.range in
    let found = c.find-found.ensures in (
      c.requires.low,
      (
        c.requires.high,
        (
          label_room r range c.args.stage c.args.labels.now c.args.reading.now.cells.now c.args.reading.now.marks.now c.requires c.find-found.result.count c.find-found.result.bits found.count found.bits,
          bits_short r range c.args.stage c.args.labels.now c.args.reading.now.cells.now c.args.reading.now.marks.now c.requires c.find-found.result.count c.find-found.result.bits found.count found.bits,
        ),
      ),
    )

pub returns-then-found-stage : goal.returns-then-found-stage
returns-then-found-stage c =
    let r = c.args.self.now.r in
    let found = c.find-found.ensures in
    let near = subst (λ (d : ℕ). c.find-found.result.harm < d) (distance r c.args.stage c.args.self.now.range.1 c.requires.high) c.if-found-stage.true in
    nearest_some r c.args.self.now.range c.args.stage c.args.labels.now c.args.reading.now.cells.now c.args.reading.now.marks.now c.requires c.find-found.result.count c.find-found.result.bits found.count found.bits c.first_label-label.result c.find-found.result.harm c.first_label-label.ensures found.harm near

pub returns-else-found-stage : goal.returns-else-found-stage
returns-else-found-stage c =
    let r = c.args.self.now.r in
    let far = subst (λ (d : ℕ). d ≤ c.find-found.result.harm) (distance r c.args.stage c.args.self.now.range.1 c.requires.high) c.if-found-stage.false in
    nearest_none r c.args.self.now.range c.args.stage c.args.labels.now c.args.reading.now.cells.now c.args.reading.now.marks.now c.requires c.find-found.result.harm c.find-found.ensures.harm far
