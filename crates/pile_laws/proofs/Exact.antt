-- A word without blank places that is a codeword lies at no harm from it, and from no other word. Assumes nothing.
use Rattle.std.proofs.Common.{◌≡◌, ℕ, ◌+◌, ◌*◌, ◌<◌, Bool, true, false, cond, eqb, List, [], ◌∷◌, length, replicate, sym, refl, ap, ◌∙◌, subst, ap₂, arith}
use Rattle.std.proofs.lemmas.List.{length-replicate}
use Rattle.std.proofs.lemmas.Bool.{eq-eqb, eqb-true}
use Rattle.words.specs.Harm.{harm}
use Rattle.chains.specs.Model.{ChainModel, LawfulChain}
use Rattle.codes.specs.Model.{CodeModel, Message, Near}
use Rattle.pile_laws.specs.Build.{columns, laid}
use Rattle.pile_laws.specs.Fit.{EachLawful, Fits}
use Rattle.pile_laws.specs.Flat.{words_in}
use Rattle.pile_laws.specs.Pile.{GivesUp, pile}
use Rattle.pile_laws.specs.Stages.{Choices}
use Rattle.pile_laws.proofs.Answers.{none_near}
use Rattle.pile_laws.proofs.Flat.{length_words_in}
use Rattle.pile_laws.proofs.Law.{pile_lawful}
use Rattle.pile_laws.proofs.Near.{own_whole}
use Rattle.pile_laws.proofs.Outcomes.{EncodedAt, chosen_encoded}

pub no_harm : (w : List ℕ) → harm w (replicate (length w) 0) w ≡ 0
no_harm [] = refl
no_harm (x ∷ w) = rw (eq-eqb x x refl) (omega (arith, no_harm w))

pub same_from_no_harm : (w v : List ℕ) → length v ≡ length w → harm w (replicate (length w) 0) v ≡ 0 → v ≡ w
same_from_no_harm [] [] l e = refl
same_from_no_harm [] (y ∷ v) l e = absurd (omega arith)
same_from_no_harm (x ∷ w) [] l e = absurd (omega arith)
same_from_no_harm (x ∷ w) (y ∷ v) l e = by (eqb x y) (λ t. eqb-true x y t) (same_from_no_harm w v (omega arith)) e
  where
    by : (t : Bool) → (t ≡ true → x ≡ y) → (harm w (replicate (length w) 0) v ≡ 0 → v ≡ w) → cond t 0 2 + harm w (replicate (length w) 0) v ≡ 0 → y ∷ v ≡ x ∷ w
    by true same rest none = ap₂ ◌∷◌ (sym (same refl)) (rest (omega (arith, none)))
    by false same rest none = absurd (omega (arith, none))

-- the message of a word that is a codeword is near to it
pub exact_near : (h : ChainModel) (law : LawfulChain h) (cs : List CodeModel) (laws : EachLawful cs) (fits : Fits h cs) (word u : List ℕ) → Message (pile h cs) u → (pile h cs).codeword u ≡ word → Near (pile h cs) word (replicate (length word) 0) u
exact_near h law cs laws fits word u m is =
    (m, omega (arith, ap (harm word (replicate (length word) 0)) is, no_harm word, (pile_lawful h law cs laws fits).some_distance))

-- decoding a word without blank places tells whether it is a codeword
module _ (h : ChainModel) (law : LawfulChain h) (cs : List CodeModel) (laws : EachLawful cs) (fits : Fits h cs) (word marks : List ℕ) (clear : marks ≡ replicate (length word) 0) (lw : length word ≡ h.breadth * columns cs) where
  lm : length marks ≡ h.breadth * columns cs
  lm = ap length clear ∙ length-replicate (length word) 0 ∙ lw

  near : (u : List ℕ) → Message (pile h cs) u → (pile h cs).codeword u ≡ word → Near (pile h cs) word marks u
  near u m is = subst (λ (ms : List ℕ). Near (pile h cs) word ms u) (sym clear) (exact_near h law cs laws fits word u m is)

  pub no_codeword : (place : ℕ) → GivesUp h cs word marks place → (u : List ℕ) → Message (pile h cs) u → (pile h cs).codeword u ≡ word → ⊥
  no_codeword place gives-up u m is = none_near h law cs laws fits word marks lw lm place gives-up u (near u m is)

  module _ (n : ℕ) (over : n ≡ columns cs) (s : ℕ) (all : s ≡ length cs) (row found : List ℕ) (d : ℕ) (choices : Choices h cs word marks (words_in n s row)) (is : found ≡ laid h n (words_in n s row)) (far : d ≡ harm word marks found) (long : length found ≡ length word) where
    many : length (words_in n s row) ≡ length cs
    many = length_words_in n s row ∙ all

    pub exact_word : d ≡ 0 → laid h n (words_in n s row) ≡ word
    exact_word none = sym is ∙ same_from_no_harm word found long (sym (ap (λ (ms : List ℕ). harm word ms found) clear) ∙ sym far ∙ none)

    pub exact_parts : (k : ℕ) → k < s → EncodedAt cs (words_in n s row) k
    exact_parts k l = chosen_encoded h cs word marks (words_in n s row) choices k (omega (arith, length_words_in n s row))

    pub inexact_word : (d ≡ 0 → ⊥) → (u : List ℕ) → Message (pile h cs) u → (pile h cs).codeword u ≡ word → ⊥
    inexact_word some u m e =
        let own = own_whole h law cs laws fits word marks lw lm u (near u m e) (words_in n s row) (omega (arith, many)) choices many in
        let same : found ≡ word = is ∙ ap₂ (λ (i : ℕ) ws. laid h i ws) over own ∙ e in
        some (far ∙ ap₂ (harm word) clear same ∙ no_harm word)
