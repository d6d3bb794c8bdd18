use Rattle.std.proofs.Common.{◌≡◌, ◌-◌, ◌<◌, length, take, replicate, ap, ◌∙◌, arith}
use Rattle.std.proofs.lemmas.List.{take-replicate}
use Rattle.std.proofs.lemmas.List.Elements.{recursion_from_All}
use Rattle.codes.proofs.Against.{against}
use Rattle.codes.proofs.repetition.Damaged.harm_against.Goals as goal

pub returns : goal.returns
returns c =
    let damaged = c.args.self.now in
    let word = damaged.word.now in
    let marks = damaged.marks.now in
    let bytes = recursion_from_All (λ w. w < 256) word damaged.symbols_small in
    let small = recursion_from_All (λ m. m < 2) marks damaged.marks_small in
    let same : length word - 0 ≡ length word = omega arith in
    c.harm.ensures ∙ against word marks _ c.args.symbol damaged.short damaged.paired small bytes c.ranges.symbol.fits
    (ap (λ k. take k (replicate 4096 c.args.symbol)) same ∙ take-replicate (length word) 4096 c.args.symbol damaged.short)
