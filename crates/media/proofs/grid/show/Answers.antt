use Rattle.std.proofs.Common.{length, ◌≤◌, sym, ◌∙◌, arith}
use mathlib.Core.List.{map-map}
use Rattle.media_laws.specs.Grid.{state_of}
use Rattle.media_laws.specs.Model.{value_of, mark_of}
use Rattle.media_laws.proofs.Fills.{filled_all}
use Rattle.media.proofs.grid.show.Goals as goal

pub returns : goal.returns
returns c =
    let i = c.loop-i.i in
    let lc : length c.loop-i.cells ≤ i = omega arith in
    let lm : length c.loop-i.marks ≤ i = omega arith in
    record {
      cells = filled_all (λ b. value_of (state_of b)) c.args.bytes.now c.loop-i.cells i c.loop-i-test.false lc c.loop-i.invariant.0 ∙ sym (map-map value_of state_of c.args.bytes.now);
      marks = filled_all (λ b. mark_of (state_of b)) c.args.bytes.now c.loop-i.marks i c.loop-i-test.false lm c.loop-i.invariant.1 ∙ sym (map-map mark_of state_of c.args.bytes.now);
    }
