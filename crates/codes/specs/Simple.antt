-- What the simple kinds of code rest on. Assumes nothing.
use Rattle.std.specs.Prelude.{◌≡◌, ℕ, zero, suc, ◌+◌, ◌<◌, ◌≤◌, Bool, true, false, cond, List, [], ◌∷◌, length, ◌==◌, ◌≢◌, slice_index, refl}
use Rattle.std.proofs.Common.{sym, ap₂, ◌∙◌, le_of_suc-le-suc, not-suc-le-zero, arith}
use Rattle.std.specs.List.{AllByRecursion}
use Rattle.std.proofs.lemmas.Bool.{eqb-true, eq-eqb, ne_eqb}
use Rattle.words.specs.Distance.{differences}
use Rattle.words.specs.Harm.{harm}
use Rattle.codes.specs.Kinds.{open_code}
use Rattle.codes.specs.Making.{InRange}
use Rattle.codes.specs.Model.{Lawful}

-- words of one length that are not equal differ somewhere
pub differ : (u v : List ℕ) → length u ≡ length v → (u ≢ v) → 1 ≤ differences u v
differ [] [] l ne = absurd (ne refl)
differ [] (y ∷ v) l ne = absurd (omega arith)
differ (x ∷ u) [] l ne = absurd (omega arith)
differ (x ∷ u) (y ∷ v) l ne = by (x == y) (λ e. eqb-true x y e) (λ h. differ u v (omega arith) h)
  where
    by : (t : Bool) → (t ≡ true → x ≡ y) → ((u ≢ v) → 1 ≤ differences u v) → 1 ≤ cond t 0 1 + differences u v
    by true same rest = omega (arith, rest (λ e. ne (ap₂ (λ h t. h ∷ t) (same refl) e)))
    by false same rest = omega arith

pub open_lawful : (m n : ℕ) → InRange m n → Lawful (open_code m n)
open_lawful m n h =
    record {
      some_width = h.0.0;
      narrow = h.0.1;
      short = h.1.1;
      some_message = h.1.0;
      message_within = omega arith;
      some_distance = omega arith;
      symbols = λ u s. s;
      apart = λ u v mu mv ne. differ u v (mu.0 ∙ sym mv.0) ne;
      one_place = λ word marks d p q blamed blamed'. blamed ∙ sym blamed';
    }

-- a blank place harms, whatever the codeword
pub blank_harms : (word marks codeword : List ℕ) (i : ℕ) → length marks ≡ length word → length codeword ≡ length word → i < length marks → (slice_index marks i ≢ 0) → 1 ≤ harm word marks codeword
blank_harms word [] codeword i lm lc l ne = absurd (not-suc-le-zero l)
blank_harms [] (m ∷ marks) codeword i lm lc l ne = absurd (omega arith)
blank_harms (w ∷ word) (m ∷ marks) [] i lm lc l ne = absurd (omega arith)
blank_harms (w ∷ word) (m ∷ marks) (c ∷ codeword) zero lm lc l ne = rw (ne_eqb m 0 ne) (omega arith)
blank_harms (w ∷ word) (m ∷ marks) (c ∷ codeword) (suc i) lm lc l ne =
    omega (arith, blank_harms word marks codeword i (omega arith) (omega arith) (le_of_suc-le-suc l) ne)

-- a word with no blank place is not harmed against itself
pub no_harm : (word marks : List ℕ) → AllByRecursion (λ m. m ≡ 0) marks → harm word marks word ≡ 0
no_harm [] marks a = refl
no_harm (w ∷ word) [] a = refl
no_harm (w ∷ word) (m ∷ marks) a = rw (eq-eqb m 0 a.0, eq-eqb w w refl) (omega (arith, no_harm word marks a.1))
