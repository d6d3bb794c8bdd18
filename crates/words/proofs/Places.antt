-- Harm, one place after the other. Assumes nothing.
use Rattle.std.proofs.Common.{◌≡◌, ℕ, ◌+◌, ◌<◌, ◌≤◌, Bool, true, false, cond, eqb, List, length, get_or, drop, arith}
use Rattle.std.proofs.lemmas.List.{drop_more}
use Rattle.words.specs.Harm.{harm, harm_at}

pub harm_at_most : (symbol mark sent : ℕ) → harm_at symbol mark sent ≤ 2
harm_at_most symbol mark sent = by_mark (eqb mark 0) (eqb symbol sent)
  where
    by_mark : (t u : Bool) → cond t (cond u 0 2) 1 ≤ 2
    by_mark true true = omega arith
    by_mark true false = omega arith
    by_mark false u = omega arith

pub harm_more : (word marks codeword : List ℕ) (i : ℕ) → i < length word → i < length marks → i < length codeword → harm (drop i word) (drop i marks) (drop i codeword) ≡ harm_at (get_or word i 0) (get_or marks i 0) (get_or codeword i 0) + harm (drop (i + 1) word) (drop (i + 1) marks) (drop (i + 1) codeword)
harm_more word marks codeword i hw hm hc = rw (drop_more word i 0 hw, drop_more marks i 0 hm, drop_more codeword i 0 hc)
