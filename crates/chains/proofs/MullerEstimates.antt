-- What the program for the Reed-Muller chains works out is the estimate. Assumes nothing.
use Rattle.std.proofs.Common.{◌≡◌, ℕ, ◌+◌, ◌-◌, ◌*◌, ◌/◌, ◌^◌, ◌<◌, ◌≤◌, List, length, take, drop, Some, None, sym, ap, ◌∙◌, subst, ap₂, subst₂, arith}
use lib.Bits.{bit_or}
use lib.Count.{ones}
use Rattle.chains.specs.Bits.{bits_of, spelled}
use Rattle.chains.specs.Model.{at_stage}
use Rattle.chains.specs.Promises.{Estimates}
use Rattle.chains.specs.ReedMuller.{MullerRange, muller_widths, muller_chain, row_bits}
use Rattle.chains.specs.Refusals.{ReadingFits}
use Rattle.chains.specs.Votes.{columns, laid, settled, left_harm, decided_bits, found_bits, found_harm}
use Rattle.chains.proofs.Masks.{harm_ones}
use Rattle.chains.specs.MullerWords.{length_found, room, muller_some, muller_none}
use Rattle.chains.specs.Spelling.{spelled_head, spelled_small}
use Rattle.chains.specs.Voting.{settled_small}

-- the decided bits, the packed reading, and what is left of it at each step
pub record Worked (r : ℕ) (labels cells marks : List ℕ) : Type 0 where
  pub count : ℕ
  pub bits : ℕ
  pub word : ℕ
  pub blank : ℕ
  pub begun : ℕ
  pub settled_bits : ℕ
  pub rest : ℕ
  pub count_is : count ≡ length (row_bits (muller_widths r) labels)
  pub bits_are : bits_of count bits ≡ row_bits (muller_widths r) labels
  pub word_is : bits_of (2 ^ r) word ≡ cells
  pub blank_is : bits_of (2 ^ r) blank ≡ marks
  pub blank_small : blank < 2 ^ 2 ^ r
  pub begun_is : bits_of (2 ^ r) begun ≡ laid (columns r) (bits_of count bits) (bits_of (2 ^ r) word)
  pub settled_is : settled_bits ≡ spelled (settled (drop count (columns r)) (bits_of (2 ^ r) begun) (bits_of (2 ^ r) blank))
  pub rest_is : bits_of (2 ^ r) rest ≡ laid (drop count (columns r)) (settled (drop count (columns r)) (bits_of (2 ^ r) begun) (bits_of (2 ^ r) blank)) (bits_of (2 ^ r) begun)
  pub rest_small : rest < 2 ^ 2 ^ r

module _ (r : ℕ) (range : MullerRange r) (i : ℕ) (labels cells marks : List ℕ) (fits : ReadingFits (2 ^ r) (r + 1) (at_stage (muller_widths r)) i labels cells marks) where
  -- the numbers that the program works with are those of the lists
  module _ (w : Worked r labels cells marks) where
    begun_there : bits_of (2 ^ r) w.begun ≡ laid (columns r) (decided_bits r labels) cells
    begun_there = w.begun_is ∙ ap₂ (laid (columns r)) w.bits_are w.word_is

    found_there : settled (drop w.count (columns r)) (bits_of (2 ^ r) w.begun) (bits_of (2 ^ r) w.blank) ≡ found_bits r labels cells marks
    found_there = λ k. settled (drop (w.count_is k) (columns r)) (begun_there k) (w.blank_is k)

    pub worked_bits : w.settled_bits ≡ spelled (found_bits r labels cells marks)
    worked_bits = w.settled_is ∙ ap spelled found_there

    pub worked_harm : (harm : ℕ) → harm + ones w.blank ≡ 2 * ones (bit_or w.rest w.blank) → harm ≡ found_harm r labels cells marks
    worked_harm harm e =
        let sum = harm_ones (2 ^ r) w.rest w.blank w.rest_small w.blank_small in
        let here : harm ≡ left_harm (bits_of (2 ^ r) w.rest) (bits_of (2 ^ r) w.blank) = omega (arith, e, sum) in
        let left : bits_of (2 ^ r) w.rest ≡ laid (drop (length (decided_bits r labels)) (columns r)) (found_bits r labels cells marks) (laid (columns r) (decided_bits r labels) cells) = w.rest_is ∙ (λ k. laid (drop (w.count_is k) (columns r)) (found_there k) (begun_there k)) in
        here ∙ ap₂ left_harm left w.blank_is

  -- the label stands at the head of the bits that were found
  module _ (count bits : ℕ) (count_is : count ≡ length (decided_bits r labels)) (bits_are : bits ≡ spelled (found_bits r labels cells marks)) where
    abbrev width : ℕ
    width = at_stage (muller_widths r) i

    pub label_room : count + width ≤ 2 ^ r
    label_room = omega (arith, count_is, room r range i labels cells marks fits.low fits.high fits.many fits.cells_fit fits.marks_fit)

    long : length (found_bits r labels cells marks) ≡ 2 ^ r - count
    long = length_found r range i labels cells marks fits.low fits.high fits.many fits.cells_fit fits.marks_fit ∙ ap (λ k. 2 ^ r - k) (sym count_is)

    pub bits_short : bits < 2 ^ (2 ^ r - count)
    bits_short = subst₂ (λ (x k : ℕ). x < 2 ^ k) (sym bits_are) long (spelled_small (found_bits r labels cells marks) (settled_small _ _ _))

    label_there : bits / 2 ^ (2 ^ r - count - width) ≡ spelled (take width (found_bits r labels cells marks))
    label_there =
        ap₂ (λ x k. x / 2 ^ (k - width)) bits_are (sym long)
        ∙ spelled_head (found_bits r labels cells marks) width (omega (arith, long, label_room)) (settled_small _ _ _)

    pub nearest_some : (label harm : ℕ) → label ≡ bits / 2 ^ (2 ^ r - count - width) → harm ≡ found_harm r labels cells marks → harm < 2 ^ (i - 1) → Estimates (muller_chain r) i labels cells marks (Some (record { label = label; harm = harm }))
    nearest_some label harm el eh near =
        let some = muller_some r range i labels cells marks fits.low fits.high fits.many fits.cells_fit fits.marks_fit fits.each (subst (λ (x : ℕ). x < 2 ^ (i - 1)) eh near) in
        subst₂ (λ (x y : ℕ). Estimates (muller_chain r) i labels cells marks (Some (record { label = x; harm = y }))) (sym (el ∙ label_there)) (sym eh) some

  pub nearest_none : (harm : ℕ) → harm ≡ found_harm r labels cells marks → 2 ^ (i - 1) ≤ harm → Estimates (muller_chain r) i labels cells marks None
  nearest_none harm eh far =
      muller_none r range i labels cells marks fits.low fits.high fits.many fits.cells_fit fits.marks_fit fits.each (subst (λ (x : ℕ). 2 ^ (i - 1) ≤ x) eh far)
