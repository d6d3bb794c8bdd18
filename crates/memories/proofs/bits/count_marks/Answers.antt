use Rattle.std.proofs.Common.{eqb, arith}
use Rattle.std.proofs.iter.Serving.{serving}
use Rattle.std.proofs.lemmas.List.Sums.{count_by-le-length}
use Rattle.memories.proofs.bits.count_marks.Goals as goal

pub sum-requires-clause-fits : goal.sum-requires-clause-fits
sum-requires-clause-fits c =
    let most = count_by-le-length (λ m. eqb m 1) c.args.marks.now in
    grind (serving, arith, most)
