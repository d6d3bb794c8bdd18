use Rattle.std.proofs.Common.{length, arith}
use Rattle.std.proofs.lemmas.List.FromFn.{fill_by_all}
use Rattle.media_laws.specs.Model.{value_of, mark_of}
use Rattle.media_laws.specs.Packed.{cell_at}
use Rattle.media.proofs.packed.show.Goals as goal

pub returns : goal.returns
returns c =
    let bytes = c.args.bytes.now in
    let v = c.args.first.value in
    let m = c.args.first.mark in
    record {
      cells = fill_by_all (λ k. value_of (cell_at bytes v m k)) c.loop-i.cells (length c.args.cells.now) 0 (omega arith) (λ k l. c.loop-i.invariant.0 k (omega arith));
      marks = fill_by_all (λ k. mark_of (cell_at bytes v m k)) c.loop-i.marks (length c.args.cells.now) 0 (omega arith) (λ k l. c.loop-i.invariant.1 k (omega arith));
    }
