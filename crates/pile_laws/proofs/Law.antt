-- A pile of lawful parts is a lawful code. Assumes nothing.
use Rattle.std.proofs.Common.{◌≡◌, ℕ, zero, suc, ◌-◌, ◌*◌, ◌<◌, ◌≤◌, Bool, true, false, cond, eqb, ◌⊎◌, List, [], ◌∷◌, length, get_or, take, sym, refl, ap, ◌∙◌, subst, ap₂, inl, inr, ⊎_elim, mul-le-mul_left, arith}
use mathlib.Core.List.{List-discrete}
use native.Mathlib.Decide.{ℕ_discrete}
use native.Mathlib.Nat.{one-le-mul}
use Rattle.std.proofs.lemmas.Bool.{eqb-false}
use Rattle.algebra.proofs.Sums.{total_le, total_mul}
use Rattle.words.specs.Distance.{differences}
use Rattle.chains.specs.Model.{ChainModel, LawfulChain, Stage, FirstDiffer}
use Rattle.codes.specs.Model.{CodeModel, Lawful, Message}
use Rattle.pile_laws.specs.Build.{columns, encoded, joined_bits, laid, labels_at, reach, stage_messages, stage_words, total_bits}
use Rattle.pile_laws.specs.Fit.{EachLawful, Fits}
use Rattle.pile_laws.specs.Pile.{pile}
use Rattle.pile_laws.specs.Stages.{no_code}
use Rattle.pile_laws.proofs.Columns.{row_word, differences_total, differences_laid}
use Rattle.pile_laws.proofs.Fitting.{Fitting, fitting, fitting_at, fitting_length, lawful_at}
use Rattle.pile_laws.proofs.Messages.{EachMessage, stage_messages_are, bits_again}
use Rattle.pile_laws.proofs.OnePlace.{one_place}
use Rattle.pile_laws.proofs.Reach.{reach_each, some_reach}
use Rattle.pile_laws.proofs.Rows.{WordsOf, encoded_at, encoded_words, label_at, labels_before, laid_cells, length_encoded, row_at}
use Rattle.pile_laws.proofs.Widths.{message_fits}

-- where two rows of messages first differ, if they do
abbrev UnlikeAt : List CodeModel → (us vs : List (List ℕ)) → ℕ → Type 0
UnlikeAt cs us vs k = (k < length cs) × (take k us ≡ take k vs) × (get_or us k [] ≡ get_or vs k [] → ⊥)

same_or_unlike : (cs : List CodeModel) (us vs : List (List ℕ)) → EachMessage cs us → EachMessage cs vs → (us ≡ vs) ⊎ ((k : ℕ) × UnlikeAt cs us vs k)
same_or_unlike [] [] [] eu ev = inl refl
same_or_unlike [] [] (v ∷ vs) eu ev = absurd ev
same_or_unlike [] (u ∷ us) vs eu ev = absurd eu
same_or_unlike (c ∷ cs) [] vs eu ev = absurd eu
same_or_unlike (c ∷ cs) (u ∷ us) [] eu ev = absurd ev
same_or_unlike (c ∷ cs) (u ∷ us) (v ∷ vs) eu ev = by (List-discrete ℕ_discrete u v) (same_or_unlike cs us vs eu.1 ev.1)
  where
    by : Dec (u ≡ v) → (us ≡ vs) ⊎ ((k : ℕ) × UnlikeAt cs us vs k) → (u ∷ us ≡ v ∷ vs) ⊎ ((k : ℕ) × UnlikeAt (c ∷ cs) (u ∷ us) (v ∷ vs) k)
    by (no ne) rest = inr (0, (omega arith, refl, ne))
    by (yes e) (inl es) = inl (ap₂ ◌∷◌ e es)
    by (yes e) (inr d) = inr (suc d.0, (omega (arith, d.1.0), ap₂ ◌∷◌ e d.1.1, d.1.2))

encoded_take : (cs : List CodeModel) (us : List (List ℕ)) (k : ℕ) → take k (encoded cs us) ≡ encoded cs (take k us)
encoded_take [] us zero = refl
encoded_take [] us (suc k) = refl
encoded_take (c ∷ cs) [] zero = refl
encoded_take (c ∷ cs) [] (suc k) = refl
encoded_take (c ∷ cs) (u ∷ us) zero = refl
encoded_take (c ∷ cs) (u ∷ us) (suc k) = ap (λ ws. c.codeword u ∷ ws) (encoded_take cs us k)

module _ (h : ChainModel) (law : LawfulChain h) (cs : List CodeModel) (laws : EachLawful cs) (fits : Fits h cs) where
  fit : Fitting h (columns cs) 1 cs
  fit = (fitting h cs fits).0

  some_stages : 0 < length cs
  some_stages = omega (arith, fitting_length h (columns cs) 1 cs (omega arith) (omega arith) fit, law.some_stages)

  module _ (us : List (List ℕ)) (eu : EachMessage cs us) where
    pub words_of : WordsOf cs (columns cs) (encoded cs us)
    words_of = encoded_words h (columns cs) cs us fit laws eu

    pub many : length (encoded cs us) ≡ length cs
    many = length_encoded cs us eu

    pub row_length : (j : ℕ) → j < columns cs → length (row_word h (encoded cs us) j) ≡ h.breadth
    row_length j l = (law.words (labels_at (encoded cs us) j) (row_at h (columns cs) cs fit (encoded cs us) words_of (omega (arith, many)) law many j l)).0

  -- messages that first differ at one stage lie that stage's inner times outer distance apart
  module _ (us vs : List (List ℕ)) (eu : EachMessage cs us) (ev : EachMessage cs vs) (k : ℕ) (d : UnlikeAt cs us vs k) where
    here : suc k - 1 ≡ k
    here = omega arith

    stage : Stage h (suc k)
    stage = (omega arith, omega (arith, (fitting_at h (columns cs) 1 k cs d.0 fit).0))

    column_apart : (j : ℕ) → j < columns cs → (get_or (get_or (encoded cs us) k []) j 0 ≡ get_or (get_or (encoded cs vs) k []) j 0 → ⊥) → h.distance (suc k) ≤ differences (row_word h (encoded cs us) j) (row_word h (encoded cs vs) j)
    column_apart j l ne =
        let la = many us eu in
        let lb = many vs ev in
        let ra = row_at h (columns cs) cs fit (encoded cs us) (words_of us eu) (omega (arith, la)) law la j l in
        let rb = row_at h (columns cs) cs fit (encoded cs vs) (words_of vs ev) (omega (arith, lb)) law lb j l in
        let before_same : take k (labels_at (encoded cs us) j) ≡ take k (labels_at (encoded cs vs) j) =
        labels_before (encoded cs us) k j
        ∙ ap (λ ws. labels_at ws j) (encoded_take cs us k ∙ ap (encoded cs) d.1 ∙ sym (encoded_take cs vs k))
        ∙ sym (labels_before (encoded cs vs) k j) in
        let unlike : get_or (labels_at (encoded cs us) j) k 0 ≡ get_or (labels_at (encoded cs vs) j) k 0 → ⊥ = λ e.
        ne (sym (label_at (encoded cs us) k j (omega (arith, la, d.0))) ∙ e ∙ label_at (encoded cs vs) k j (omega (arith, lb, d.0))) in
        let first : FirstDiffer (suc k) (labels_at (encoded cs us) j) (labels_at (encoded cs vs) j) = subst (λ (m : ℕ). (take m (labels_at (encoded cs us) j) ≡ take m (labels_at (encoded cs vs) j)) × (get_or (labels_at (encoded cs us) j) m 0 ≡ get_or (labels_at (encoded cs vs) j) m 0 → ⊥)) (sym here) (before_same, unlike) in
        law.apart (suc k) _ _ stage ra rb first

    words_apart : reach h cs ≤ differences (laid h (columns cs) (encoded cs us)) (laid h (columns cs) (encoded cs vs))
    words_apart =
        let c = get_or cs k no_code in
        let x = get_or (encoded cs us) k [] in
        let y = get_or (encoded cs vs) k [] in
        let au = encoded_at cs us k d.0 eu in
        let av = encoded_at cs vs k d.0 ev in
        let far = (lawful_at k cs d.0 laws).apart (get_or us k []) (get_or vs k []) au.1 av.1 d.2 in
        let lx = (words_of us eu k (omega (arith, many us eu, d.0))).0 in
        let ly = (words_of vs ev k (omega (arith, many vs ev, d.0))).0 in
        let unlike : ℕ → ℕ = λ j. cond (eqb (get_or x j 0) (get_or y j 0)) 0 1 in
        let each : (j : ℕ) → j < columns cs → h.distance (suc k) * unlike j ≤ differences (row_word h (encoded cs us) j) (row_word h (encoded cs vs) j) = λ j l. weigh (h.distance (suc k)) (differences (row_word h (encoded cs us) j) (row_word h (encoded cs vs) j)) (eqb (get_or x j 0) (get_or y j 0)) (λ e. column_apart j l (eqb-false (get_or x j 0) (get_or y j 0) e)) in
        let sum = total_le (λ j. h.distance (suc k) * unlike j) (λ j. differences (row_word h (encoded cs us) j) (row_word h (encoded cs vs) j)) (columns cs) each in
        let whole = differences_laid h (encoded cs us) (encoded cs vs) h.breadth (columns cs) (row_length us eu) (row_length vs ev) in
        omega (arith, reach_each h k cs d.0, ap (λ (z : ℕ). h.distance (suc k) * z) (ap₂ differences au.0 av.0), ap (λ (z : ℕ). h.distance (suc k) * z) (differences_total x y (columns cs) lx ly), total_mul (h.distance (suc k)) unlike (columns cs), sum, whole, mul-le-mul_left (h.distance (suc k)) far)
      where
        weigh : (d m : ℕ) (t : Bool) → (t ≡ false → d ≤ m) → d * cond t 0 1 ≤ m
        weigh d m true le = omega arith
        weigh d m false le = omega (arith, le refl)

  pub messages : (u : List ℕ) → Message (pile h cs) u → EachMessage cs (stage_messages cs u)
  messages u m = stage_messages_are cs u (omega (arith, m.0)) m.1

  pub pile_lawful : Lawful (pile h cs)
  pile_lawful =
      record {
        some_width = omega arith;
        narrow = omega arith;
        short = (fitting h cs fits).1;
        some_message = some_bits cs some_stages laws;
        message_within = message_fits h law (columns cs) cs fit laws;
        some_distance = some_reach h law (columns cs) cs some_stages fit laws;
        symbols = λ u m.
            let eu = messages u m in
            let all = many (stage_messages cs u) eu in
            laid_cells h (columns cs) cs fit (stage_words cs u) (words_of (stage_messages cs u) eu) (omega (arith, all)) law all (columns cs) 0 (omega arith);
        apart = apart;
        one_place = λ word marks beside. one_place h law cs laws fits word marks beside.0.0 beside.1.0;
      }
    where
      some_bits : (cs : List CodeModel) → 0 < length cs → EachLawful cs → 1 ≤ total_bits cs
      some_bits [] l a = absurd (omega arith)
      some_bits (c ∷ cs) l a = omega (arith, one-le-mul a.0.some_message a.0.some_width)

      apart : (u v : List ℕ) → Message (pile h cs) u → Message (pile h cs) v → (u ≡ v → ⊥) → reach h cs ≤ differences (laid h (columns cs) (stage_words cs u)) (laid h (columns cs) (stage_words cs v))
      apart u v mu mv ne =
          let eu = messages u mu in
          let ev = messages v mv in
          ⊎_elim (λ same. absurd (ne (sym (bits_again cs u mu.0 mu.1) ∙ ap (joined_bits cs) same ∙ bits_again cs v mv.0 mv.1))) (λ d. words_apart (stage_messages cs u) (stage_messages cs v) eu ev d.0 d.1) (same_or_unlike cs (stage_messages cs u) (stage_messages cs v) eu ev)
