use Rattle.std.proofs.Common.{◌<◌, length, get_or, drop, ap, arith}
use Rattle.std.proofs.lemmas.List.{drop_all}
use Rattle.words.specs.Harm.{harm}
use Rattle.words.proofs.Places.{harm_at_most, harm_more}
use Rattle.words.proofs.harms.total_harm.Goals as goal

pub loop-i-preserved : goal.loop-i-preserved
loop-i-preserved c =
    let word = c.args.word.now in
    let marks = c.args.marks.now in
    let codeword = c.args.codeword.now in
    let i = c.loop-i.i in
    let hw : i < length word = omega arith in
    let hm : i < length marks = omega arith in
    let hc : i < length codeword = omega arith in
    let step = harm_more word marks codeword i hw hm hc in
    let most = harm_at_most (get_or word i 0) (get_or marks i 0) (get_or codeword i 0) in
    (omega (arith, c.harm_at-total.ensures, most), omega (arith, c.harm_at-total.ensures, step))

pub returns : goal.returns
returns c =
    let marks = drop c.loop-i.i c.args.marks.now in
    let codeword = drop c.loop-i.i c.args.codeword.now in
    let over = ap (λ left. harm left marks codeword) (drop_all c.loop-i.i c.args.word.now c.loop-i-test.false) in
    omega (arith, over)
