-- The words that a code's calls leave are values of polynomials. Assumes nothing.
use Rattle.std.proofs.Common.{◌≡◌, ℕ, List, length, take, Ok, Err, Result, OnOk, sym, ap, ◌∙◌, subst}
use Rattle.words.specs.declared.fault.Fault.{Fault}
use Rattle.field_laws.specs.Fields.{FieldModel, FieldLaws}
use Rattle.codes.specs.Model.{Symbols}
use Rattle.reed_solomon_laws.specs.Words.{Codeword, InKind, reed_solomon}
use Rattle.reed_solomon_laws.proofs.Laws.{begins_with, codeword_is}
use Rattle.reed_solomon.specs.Finding.{Replaced}

-- the codeword of a beginning, with its lengths by other names
pub same_code : (f : FieldModel) (n k m j : ℕ) (u : List ℕ) → m ≡ n → j ≡ k → (reed_solomon f m j).codeword u ≡ (reed_solomon f n k).codeword u
same_code f n k m j u em ej =
    ap (λ (a : ℕ). (reed_solomon f a j).codeword u) em ∙ ap (λ (a : ℕ). (reed_solomon f n a).codeword u) ej

module _ (f : FieldModel) (laws : FieldLaws f) (n k : ℕ) (kind : InKind f n k) where
  -- the codeword of a message
  pub is_codeword : (u word : List ℕ) → Symbols f.width k u → word ≡ (reed_solomon f n k).codeword u → Codeword f n k word
  is_codeword u word s is = subst (Codeword f n k) (sym is) (codeword_is f laws n k kind u s)

  pub begins : (u word : List ℕ) → Symbols f.width k u → word ≡ (reed_solomon f n k).codeword u → take k word ≡ u
  begins u word s is = ap (take k) is ∙ begins_with f laws n k kind u s

-- what has taken the word's place
pub placed : (f : FieldModel) (n k : ℕ) (word marks word' : List ℕ) (r : Result ℕ Fault) → length word ≡ n → Replaced f k word marks word' r → OnOk r (Codeword f n k word')
placed f n k word marks word' (Ok h) long t = subst (λ (m : ℕ). Codeword f m k word') long t.0
placed f n k word marks word' (Err e) long t = tt
