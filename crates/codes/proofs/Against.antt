-- The harm of a word against one symbol many times over, as the call that measures harm answers it. Assumes nothing.
use Rattle.std.proofs.Common.{◌≡◌, ℕ, ◌<◌, ◌≤◌, min, List, length, replicate, Ok, ap, ◌∙◌, arith}
use Rattle.std.specs.List.{AllByRecursion}
use Rattle.std.proofs.lemmas.List.{length-replicate}
use Rattle.words.specs.declared.fault.Layer.TheVariants.{Code}
use Rattle.words.specs.Buffers.{answered, refusal}
use Rattle.words.specs.Harm.{harm, harm_buffers}
use Rattle.words.proofs.Passes.{none_from_fits}
use Rattle.codes.specs.Repeats.{all_replicate}

pub against : (word marks codeword : List ℕ) (x : ℕ) → length word ≤ 4096 → length marks ≡ length word → AllByRecursion (λ m. m < 2) marks → AllByRecursion (λ w. w < 256) word → x < 256 → codeword ≡ replicate (length word) x → answered (refusal Code (harm_buffers word marks codeword)) (harm word marks codeword) ≡ Ok (harm word marks (replicate (length word) x))
against word marks codeword x short lm small bytes byte is =
    let repeated = replicate (length word) x in
    let places : length word ≡ min (length word) 4096 = omega arith in
    let none = none_from_fits Code (harm_buffers word marks repeated) ((places, bytes), ((lm ∙ places, small), ((length-replicate (length word) x ∙ places, all_replicate (λ w. w < 256) (length word) x byte), tt))) in
    ap (λ w. answered (refusal Code (harm_buffers word marks w)) (harm word marks w)) is ∙ ap (λ due. answered due (harm word marks repeated)) none
