-- Words that lie one behind the other in one row, and what a write to one of them leaves. Assumes nothing.
use Rattle.std.proofs.Common.{◌≡◌, ℕ, suc, ◌+◌, ◌*◌, ◌<◌, ◌≤◌, List, [], ◌∷◌, ◌++◌, length, get_or, take, drop, sym, ap, ◌∙◌, ap₂, mul-le-mul_left, mul-suc, arith}
use borrow.Rule.Slice.PartMut.{put_mid}
use Rattle.std.proofs.lemmas.List.FromFn.{length-map-range_with_len, get_or-map-range_with_len, map-range_with_len_more}
use Rattle.std.proofs.lemmas.List.{drop_at, drop-take, ext_get_or, get_or-drop, get_or-map, get_or-take, length-map, length-take-le, take_at}
use Rattle.std.proofs.lemmas.Slice.{take-put_mid_below}
use Rattle.pile_laws.specs.Build.{labels_at}
use Rattle.pile_laws.specs.Flat.{words_in}
use Rattle.pile_laws.specs.Stages.{column}

module _ (n : ℕ) where
  pub length_words_in : (s : ℕ) (row : List ℕ) → length (words_in n s row) ≡ s
  length_words_in s row = length-map-range_with_len (λ k. column n k row) 0 s

  pub words_in_at : (s k : ℕ) (row : List ℕ) → k < s → get_or (words_in n s row) k [] ≡ column n k row
  words_in_at s k row l = get_or-map-range_with_len (λ k. column n k row) 0 s k k [] l (omega arith)

  pub words_in_more : (k : ℕ) (row : List ℕ) → words_in n (k + 1) row ≡ words_in n k row ++ (column n k row ∷ [])
  words_in_more k row = map-range_with_len_more (λ k. column n k row) 0 k k (omega arith)

  -- the part that was written, and those before it
  pub column_written : (k : ℕ) (row ys : List ℕ) → n * k ≤ length row → length ys ≡ n → column n k (put_mid (n * k) n row ys) ≡ ys
  column_written k row ys l ly =
      ap (take n) (drop_at (take (n * k) row) (ys ++ drop n (drop (n * k) row)) (n * k) (length-take-le (n * k) row l))
      ∙ take_at ys (drop n (drop (n * k) row)) n ly

  column_before : (i : ℕ) (row : List ℕ) → column n i row ≡ drop (n * i) (take (n * i + n) row)
  column_before i row = sym (drop-take (n * i) n row)

  pub column_kept : (i k : ℕ) (row ys : List ℕ) → i < k → n * k ≤ length row → column n i (put_mid (n * k) n row ys) ≡ column n i row
  column_kept i k row ys l lr =
      let below : n * i + n ≤ n * k = omega (arith, mul-suc n i, mul-le-mul_left {m = suc i} {n = k} n l) in
      column_before i (put_mid (n * k) n row ys)
      ∙ ap (drop (n * i)) (take-put_mid_below (n * k) n row ys (n * i + n) below lr)
      ∙ sym (column_before i row)

  pub words_kept : (k : ℕ) (row ys : List ℕ) → n * k ≤ length row → words_in n k (put_mid (n * k) n row ys) ≡ words_in n k row
  words_kept k row ys lr =
      let a = put_mid (n * k) n row ys in
      ext_get_or [] (words_in n k a) (words_in n k row) (length_words_in k a ∙ sym (length_words_in k row))
      (λ i l. let li : i < k = omega (arith, length_words_in k a) in words_in_at k i a li ∙ column_kept i k row ys li lr ∙ sym (words_in_at k i row li))

  pub words_written : (k : ℕ) (row ys : List ℕ) → n * k ≤ length row → length ys ≡ n → words_in n (k + 1) (put_mid (n * k) n row ys) ≡ words_in n k row ++ (ys ∷ [])
  words_written k row ys lr ly =
      words_in_more k (put_mid (n * k) n row ys)
      ∙ ap₂ (λ ws w. ws ++ (w ∷ [])) (words_kept k row ys lr) (column_written k row ys lr ly)

  pub label_in : (s k j : ℕ) (row : List ℕ) → k < s → j < n → get_or (labels_at (words_in n s row) j) k 0 ≡ get_or row (n * k + j) 0
  label_in s k j row lk lj =
      get_or-map (λ w. get_or w j 0) (words_in n s row) k [] 0 (omega (arith, length_words_in s row))
      ∙ ap (λ w. get_or w j 0) (words_in_at s k row lk)
      ∙ get_or-take n (drop (n * k) row) j 0 lj
      ∙ get_or-drop (n * k) row j 0

  -- labels that were gathered one by one
  pub gathered_labels : (s j : ℕ) (row labels : List ℕ) → j < n → length labels ≡ s → ((k : ℕ) → k < s → get_or labels k 0 ≡ get_or row (n * k + j) 0) → labels ≡ labels_at (words_in n s row) j
  gathered_labels s j row labels lj long each =
      ext_get_or 0 labels (labels_at (words_in n s row) j) (long ∙ sym (length-map (words_in n s row) (λ w. get_or w j 0) ∙ length_words_in s row))
      (λ k l. each k (omega arith) ∙ sym (label_in s k j row (omega arith) lj))

pub part_in : (n s k : ℕ) → k < s → n * k + n ≤ n * s
part_in n s k l = omega (arith, mul-suc n k, mul-le-mul_left {m = suc k} {n = s} n l)
