-- What two guesses and the key equation between them come to. Assumes nothing.
use Rattle.std.proofs.Common.{◌≡◌, ℕ, ◌+◌, ◌-◌, ◌^◌, ◌<◌, ◌≤◌, min, List, length, take, None, Ok, Err, Result, sym, refl, ap, ◌∙◌, subst, arith}
use Rattle.std.specs.List.{AllByRecursion}
use Rattle.std.proofs.ByRecursion.{All-from_get_or}
use Rattle.words.specs.declared.fault.Fault.{Fault}
use Rattle.words.specs.declared.fault.Layer.TheVariants.{Code}
use Rattle.words.specs.Buffers.{answered, refusal}
use Rattle.words.specs.Harm.{harm, harm_buffers}
use Rattle.words.proofs.Passes.{none_from_fits}
use Rattle.field_laws.specs.Fields.{FieldModel, FieldLaws}
use Rattle.codes.specs.Model.{Near, Symbols}
use Rattle.codes.specs.Promises.{Corrected}
use Rattle.codes.proofs.Working.{correct_buffers, corrected, uncorrected}
use Rattle.reed_solomon_laws.specs.Words.{Codeword, InKind, reed_solomon}
use Rattle.reed_solomon_laws.proofs.Laws.{beginning, codeword_begun, codeword_is, begins_with}
use Rattle.reed_solomon_laws.proofs.Arrays.{Below}
use Rattle.reed_solomon_laws.proofs.Nearest.{interpolated_codeword, found_again}
use Rattle.reed_solomon_laws.proofs.Numbers.{size_most}
use Rattle.reed_solomon.specs.Finding.{Received, Guessed, Found, Replaced}
use Rattle.reed_solomon.specs.Passes.{Rightful}

-- elements are bytes
pub bytes : (f : FieldModel) → FieldLaws f → (n : ℕ) (xs : List ℕ) → length xs ≡ n → Below f n xs → AllByRecursion (λ x. x < 256) xs
bytes f laws n xs long below = All-from_get_or (λ x. x < 256) xs 0 (λ j l. omega (arith, below j (omega arith), size_most f laws))

-- harm as the call that measures it answers
pub measured : (word marks v : List ℕ) → length word ≤ 4096 → length marks ≡ length word → length v ≡ length word → AllByRecursion (λ m. m < 2) marks → AllByRecursion (λ x. x < 256) word → AllByRecursion (λ x. x < 256) v →
    answered (refusal Code (harm_buffers word marks v)) (harm word marks v) ≡ Ok (harm word marks v)
measured word marks v short lm lv small bw bv =
    let places : length word ≡ min (length word) 4096 = omega arith in
    ap (λ due. answered due (harm word marks v)) (none_from_fits Code (harm_buffers word marks v) ((places, bw), ((lm ∙ places, small), ((lv ∙ places, bv), tt))))

module _ (f : FieldModel) (laws : FieldLaws f) (k : ℕ) (word marks : List ℕ) (received : Received f k word marks) where
  -- an accepted guess is a codeword
  pub found_codeword : (skip v p : List ℕ) (h : ℕ) → length v ≡ length word → Guessed f k word marks skip v p (Ok h) → Found f k word marks v (Ok h)
  found_codeword skip v p h long guessed =
      (interpolated_codeword f laws (length word) k received.0 word skip (length word) v p guessed.0 long guessed.1 guessed.2.0, guessed.2.1, guessed.2.2)

  -- if the second guess is refused too, no codeword is near
  pub none_near : (g p skip v p' : List ℕ) (r : Result ℕ Fault) (e : Fault) → length v ≡ length word → Guessed f k word marks marks g p r → Rightful f word marks g p skip → Guessed f k word marks skip v p' (Err e) → Found f k word marks v (Err e)
  none_near g p skip v p' r e long first rightful second = (
    second.2.0,
    λ w codeword near.
        let t = found_again f laws (length word) k received.0 word received.2 refl marks received.1 w codeword near g p first.0 first.1 rightful.0 rightful.1 skip v p' second.0 long rightful.2 second.1 in
        omega (arith, second.2.1 t.0, ap (harm word marks) t.1, near),
  )

  pub outcome : (g p skip v p' : List ℕ) (r s : Result ℕ Fault) → length v ≡ length word → Guessed f k word marks marks g p r → Rightful f word marks g p skip → Guessed f k word marks skip v p' s → Found f k word marks v s
  outcome g p skip v p' r (Ok h) long first rightful second = found_codeword skip v p' h long second
  outcome g p skip v p' r (Err e) long first rightful second = none_near g p skip v p' r e long first rightful second

-- what correct owes, once the near codeword has taken the word's place or there is none
module _ (f : FieldModel) (laws : FieldLaws f) (n k : ℕ) (kind : InKind f n k) (word marks : List ℕ) (long : length word ≡ n) (fits : refusal Code (correct_buffers (reed_solomon f n k) (2 ^ f.width) word marks) ≡ None) where
  pub corrects : (word' : List ℕ) (r : Result ℕ Fault) → Replaced f k word marks word' r → Corrected (reed_solomon f n k) word marks word' r
  corrects word' (Ok h) t =
      let codeword : Codeword f n k word' = subst (λ (m : ℕ). Codeword f m k word') long t.0 in
      let begun' = codeword_begun f laws n k kind word' codeword in
      let near : h < n - k + 1 = subst (λ (m : ℕ). h < m - k + 1) long t.2 in
      corrected (reed_solomon f n k) word marks word' h fits (take k word') (beginning f laws n k kind word' codeword, omega (arith, t.1, ap (harm word marks) begun')) begun' (t.1 ∙ ap (harm word marks) begun')
  corrects word' (Err e) t =
      let none : (u : List ℕ) → Near (reed_solomon f n k) word marks u → ⊥ = λ u near. t.2 ((reed_solomon f n k).codeword u) (subst (λ (m : ℕ). Codeword f m k ((reed_solomon f n k).codeword u)) (sym long) (codeword_is f laws n k kind u near.0)) (subst (λ (m : ℕ). harm word marks ((reed_solomon f n k).codeword u) < m - k + 1) (sym long) near.1) in
      subst (λ (v : List ℕ). Corrected (reed_solomon f n k) word marks v (Err e)) (sym t.1) (subst (λ (d : Fault). Corrected (reed_solomon f n k) word marks word (Err d)) (sym t.0) (uncorrected (reed_solomon f n k) word marks 0 fits refl none))

-- the word of a message is that of its own beginning
pub begun : (f : FieldModel) (laws : FieldLaws f) (n k : ℕ) (kind : InKind f n k) (word u : List ℕ) → Symbols f.width k u → (reed_solomon f n k).codeword u ≡ word → (reed_solomon f n k).codeword (take k word) ≡ word
begun f laws n k kind word u s e = ap (reed_solomon f n k).codeword (ap (take k) (sym e) ∙ begins_with f laws n k kind u s) ∙ e
