-- A word that holds one symbol throughout, as a test over its places tells. Assumes nothing.
use Rattle.std.proofs.Common.{◌≡◌, ℕ, zero, suc, true, false, eqb, List, length, get_or, replicate, refl, sym, ap, subst, ◌∙◌, eqb-true, eq-eqb}
use Rattle.std.specs.List.{list_all}
use Rattle.std.proofs.ByRecursion.{All-from_get_or}
use Rattle.std.proofs.lemmas.List.{get_or-replicate, length-replicate}
use Rattle.std.proofs.lemmas.List.Sums.{AllPass-from_list_all, list_all-from_AllPass}
use Rattle.codes.specs.Repeats.{all_same}

pub same_throughout : (x : ℕ) (xs : List ℕ) → list_all (λ y. eqb y x) xs ≡ true → xs ≡ replicate (length xs) x
same_throughout x xs e =
    all_same x xs (All-from_get_or (λ y. y ≡ x) xs 0 (λ i h. eqb-true _ _ (AllPass-from_list_all (λ y. eqb y x) xs e i 0 h)))

pub other_somewhere : (x : ℕ) (xs : List ℕ) → list_all (λ y. eqb y x) xs ≡ false → xs ≡ replicate (length xs) x → ⊥
other_somewhere x xs e is =
    let whole : list_all (λ y. eqb y x) xs ≡ true = list_all-from_AllPass (λ y. eqb y x) xs (λ i d h. eq-eqb _ _ (ap (λ ys. get_or ys i d) is ∙ get_or-replicate (length xs) i x d h)) in
    cc

-- a word of one symbol is its first symbol throughout
pub everywhere_first : (n s : ℕ) (word : List ℕ) → replicate n s ≡ word → word ≡ replicate (length word) (get_or word 0 0)
everywhere_first zero s word e = subst (λ (w : List ℕ). w ≡ replicate (length w) (get_or w 0 0)) e refl
everywhere_first (suc n) s word e = subst (λ (w : List ℕ). w ≡ replicate (length w) (get_or w 0 0)) e (ap (λ k. replicate k s) (sym (length-replicate (suc n) s)))
