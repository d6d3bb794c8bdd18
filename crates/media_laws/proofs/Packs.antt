-- Packed cells keep the laws of a medium, and their calls change just what they should. Assumes nothing.
use Rattle.std.proofs.Common.{◌≡◌, ℕ, zero, suc, ◌+◌, ◌*◌, ◌^◌, ◌<◌, ◌≤◌, Bool, true, false, cond, eqb, List, [], ◌∷◌, map, length, get_or, set, sym, refl, ap, ◌∙◌, subst, ap₂, ⊎_elim, le_of_suc-le-suc, not-suc-le-zero, arith}
use Rattle.std.specs.List.{range_with_len, AllByRecursion}
use Rattle.std.proofs.lemmas.Nat.{mul-le}
use Rattle.std.proofs.lemmas.List.FromFn.{length-map-range_with_len, get_or-map-range_with_len, fill_by_all}
use Rattle.std.proofs.lemmas.List.{length-set, get_or-set_same, get_or-set_other}
use Rattle.std.proofs.lemmas.Bool.{cases_eq, cases_order, ne_eqb}
use Rattle.std.proofs.lemmas.Bool.Decides.{nat_tests}
use Rattle.media_laws.specs.Model.{LawfulMedium, Changed, put_to, stored}
use Rattle.media_laws.specs.Packed.{packed, PackedFits, row_bytes, first_value, first_mark, bit_of, cell_of, cell_at, put_bit, BitSet, BitsPut, BitsWorn}
use Rattle.media_laws.proofs.Pages.{page_end}

cell_small : (value mark : ℕ) → value < 2 → cell_of value mark < 3
cell_small value mark l = grind (arith, nat_tests)

all_cells : (bytes : List ℕ) (v m : ℕ) (is : List ℕ) → AllByRecursion (λ s. s < 3) (map (cell_at bytes v m) is)
all_cells bytes v m [] = tt
all_cells bytes v m (i ∷ is) = (cell_small (bit_of bytes (v + i)) (bit_of bytes (m + i)) (omega arith), all_cells bytes v m is)

pub packed_lawful : (bytes : List ℕ) (pages breadth : ℕ) → PackedFits bytes pages breadth → LawfulMedium (packed bytes pages breadth)
packed_lawful bytes pages breadth h =
    record {
      some_pages = h.0.0;
      few_pages = h.0.1;
      some_cells = h.1.0;
      few_cells = h.1.1;
      states = λ p l. (length-map-range_with_len (cell_at bytes (first_value breadth p) (first_mark breadth p)) 0 breadth, all_cells bytes (first_value breadth p) (first_mark breadth p) (range_with_len 0 breadth));
    }

-- a page's bits stand before its marks, which stand before the next page
pub marks_behind : (breadth p : ℕ) → first_value breadth p + breadth ≤ first_mark breadth p
marks_behind breadth p = omega arith

pub page_behind : (breadth p q : ℕ) → p < q → first_mark breadth p + breadth ≤ first_value breadth q
page_behind breadth p q l = omega (arith, page_end (2 * row_bytes breadth) p q l)

pub marks_within : (bytes : List ℕ) (pages breadth : ℕ) → PackedFits bytes pages breadth → (p : ℕ) → p < pages → first_mark breadth p + breadth ≤ 8 * length bytes
marks_within bytes pages breadth h p l = omega (arith, page_end (2 * row_bytes breadth) p pages l, h.2)

pub few_bytes : (bytes : List ℕ) (pages breadth : ℕ) → PackedFits bytes pages breadth → length bytes < 2 ^ 60
few_bytes bytes pages breadth h = omega (arith, mul-le pages (2 * row_bytes breadth) 65535 1024 h.0.1 (omega (arith, h.1.1)), h.2)

-- one more cell is put
module _ (bytes b b' : List ℕ) (v m : ℕ) (cells : List ℕ) (n : ℕ) (apart : v + n < m) (put : BitsPut bytes b v m cells n) where
  abbrev Right : ℕ → Type 0
  Right i = bit_of b' (v + i) ≡ put_bit bytes (v + i) (m + i) (get_or cells i 0)

  pub put_more : BitSet b b' (v + n) (put_bit b (v + n) (m + n) (get_or cells n 0)) → BitsPut bytes b' v m cells (n + 1)
  put_more is =
      let as-were : put_bit b (v + n) (m + n) (get_or cells n 0) ≡ put_bit bytes (v + n) (m + n) (get_or cells n 0) = ap₂ (λ mark old. cond (eqb mark 1) old (get_or cells n 0)) (put.elsewhere (m + n) (λ from to. omega arith)) (put.elsewhere (v + n) (λ from to. omega arith)) in
      record {
        long = is.long ∙ put.long;
        here = λ i l. ⊎_elim (λ e. subst Right (sym e) (is.here ∙ as-were)) (λ ne. is.elsewhere (v + i) (λ e. ne (omega arith)) ∙ put.here i (omega arith)) (cases_eq i n);
        elsewhere = λ k out. is.elsewhere k (λ e. out (omega arith) (omega arith)) ∙ put.elsewhere k (λ from to. out from (omega arith));
      }

-- no cell is put yet
pub put_none : (bytes : List ℕ) (v m : ℕ) (cells : List ℕ) → BitsPut bytes bytes v m cells 0
put_none bytes v m cells = record { long = refl; here = λ i l. absurd (not-suc-le-zero l); elsewhere = λ k out. refl }

-- the row of a page's cells
abbrev row : List ℕ → ℕ → ℕ → ℕ → List ℕ
row bytes v m n = map (cell_at bytes v m) (range_with_len 0 n)

get_or_row : (bytes : List ℕ) (v m n k : ℕ) → k < n → get_or (row bytes v m n) k 0 ≡ cell_at bytes v m k
get_or_row bytes v m n k l = get_or-map-range_with_len (cell_at bytes v m) 0 n k k 0 l (omega arith)

row_from : (b' : List ℕ) (v m n : ℕ) (xs : List ℕ) → length xs ≡ n → ((k : ℕ) → k < n → get_or xs k 0 ≡ cell_at b' v m k) → row b' v m n ≡ xs
row_from b' v m n xs long each = sym (fill_by_all (cell_at b' v m) xs n 0 long each)

same_row : (b b' : List ℕ) (v m n : ℕ) → ((k : ℕ) → k < n → bit_of b' (v + k) ≡ bit_of b (v + k)) → ((k : ℕ) → k < n → bit_of b' (m + k) ≡ bit_of b (m + k)) → row b' v m n ≡ row b v m n
same_row b b' v m n values marks =
    row_from b' v m n (row b v m n) (length-map-range_with_len (cell_at b v m) 0 n)
    (λ k l. get_or_row b v m n k l ∙ sym (ap₂ cell_of (values k l) (marks k l)))

pub length_stored : (states cells : List ℕ) → length (stored states cells) ≡ length states
length_stored [] cells = refl
length_stored (s ∷ states) [] = refl
length_stored (s ∷ states) (v ∷ cells) = ap suc (length_stored states cells)

get_or_stored : (states cells : List ℕ) (i : ℕ) → i < length states → i < length cells → get_or (stored states cells) i 0 ≡ put_to (get_or states i 0) (get_or cells i 0)
get_or_stored [] cells i ls lc = absurd (not-suc-le-zero ls)
get_or_stored (s ∷ states) [] i ls lc = absurd (not-suc-le-zero lc)
get_or_stored (s ∷ states) (v ∷ cells) zero ls lc = refl
get_or_stored (s ∷ states) (v ∷ cells) (suc i) ls lc = get_or_stored states cells i (le_of_suc-le-suc ls) (le_of_suc-le-suc lc)

put_cell : (old mark cell : ℕ) → old < 2 → put_to (cell_of old mark) cell ≡ cell_of (cond (eqb mark 1) old cell) mark
put_cell old mark cell l = by (eqb mark 1)
  where
    readable : eqb old 2 ≡ false
    readable = ne_eqb old 2 (λ e. omega arith)

    by : (t : Bool) → put_to (cond t 2 old) cell ≡ cond t 2 (cond t old cell)
    by true = refl
    by false = ap (λ t. cond t 2 cell) readable

worn_cell : (value s : ℕ) → s ≤ 2 → cell_of (cond (eqb s 2) value s) (cond (eqb s 2) 1 0) ≡ s
worn_cell value s l = grind (arith, nat_tests)

-- what a call does to a page of packed cells
module _ (bytes b' : List ℕ) (pages breadth p : ℕ) where
  -- the bits of another page lie elsewhere
  other_value : (q i : ℕ) → i < breadth → (q ≡ p → ⊥) → (from : first_value breadth p ≤ first_value breadth q + i) → first_value breadth q + i < first_mark breadth p + breadth → ⊥
  other_value q i l ne from to = ⊎_elim ne (⊎_elim (λ e. omega (arith, page_behind breadth q p e)) (λ e. omega (arith, page_behind breadth p q e))) (cases_order q p)

  other_mark : (q i : ℕ) → i < breadth → (q ≡ p → ⊥) → (from : first_value breadth p ≤ first_mark breadth q + i) → first_mark breadth q + i < first_mark breadth p + breadth → ⊥
  other_mark q i l ne from to = ⊎_elim ne (⊎_elim (λ e. omega (arith, page_behind breadth q p e)) (λ e. omega (arith, page_behind breadth p q e))) (cases_order q p)

  -- a call that changes no bit but the page's
  page_alone : (states : List ℕ) → ((k : ℕ) → (first_value breadth p ≤ k → k < first_mark breadth p + breadth → ⊥) → bit_of b' k ≡ bit_of bytes k) → row b' (first_value breadth p) (first_mark breadth p) breadth ≡ states → Changed (packed bytes pages breadth) (packed b' pages breadth) p states
  page_alone states outside here =
      record {
        pages = refl;
        breadth = refl;
        here = here;
        elsewhere = λ q l ne. same_row bytes b' (first_value breadth q) (first_mark breadth q) breadth (λ k lk. outside (first_value breadth q + k) (other_value q k lk ne)) (λ k lk. outside (first_mark breadth q + k) (other_mark q k lk ne));
      }

  pub packed_put : (cells : List ℕ) → length cells ≡ breadth → BitsPut bytes b' (first_value breadth p) (first_mark breadth p) cells breadth → Changed (packed bytes pages breadth) (packed b' pages breadth) p (stored (row bytes (first_value breadth p) (first_mark breadth p) breadth) cells)
  packed_put cells long put =
      let v = first_value breadth p in
      let m = first_mark breadth p in
      let behind = marks_behind breadth p in
      let wide = length-map-range_with_len (cell_at bytes v m) 0 breadth in
      page_alone (stored (row bytes v m breadth) cells) (λ k out. put.elsewhere k (λ from to. out from (omega arith)))
      (row_from b' v m breadth (stored (row bytes v m breadth) cells) (length_stored (row bytes v m breadth) cells ∙ wide)
      (λ k l.
      get_or_stored (row bytes v m breadth) cells k (omega (arith, wide)) (omega arith)
      ∙ ap (λ s. put_to s (get_or cells k 0)) (get_or_row bytes v m breadth k l)
      ∙ put_cell (bit_of bytes (v + k)) (bit_of bytes (m + k)) (get_or cells k 0) (omega arith)
      ∙ sym (ap₂ cell_of (put.here k l) (put.elsewhere (m + k) (λ from to. omega arith)))))

  pub packed_wear : (i s : ℕ) → i < breadth → s ≤ 2 → BitsWorn bytes b' (first_value breadth p + i) (first_mark breadth p + i) s → Changed (packed bytes pages breadth) (packed b' pages breadth) p (set (row bytes (first_value breadth p) (first_mark breadth p) breadth) i s)
  packed_wear i s l small worn =
      let v = first_value breadth p in
      let m = first_mark breadth p in
      let behind = marks_behind breadth p in
      let wide = length-map-range_with_len (cell_at bytes v m) 0 breadth in
      page_alone (set (row bytes v m breadth) i s) (λ k out. worn.elsewhere k (λ e. out (omega arith) (omega arith)) (λ e. out (omega arith) (omega arith)))
      (row_from b' v m breadth (set (row bytes v m breadth) i s) (length-set (row bytes v m breadth) i s ∙ wide)
      (λ k lk.
      ⊎_elim
      (λ e.
      ap (λ x. get_or (set (row bytes v m breadth) i s) x 0) e
      ∙ get_or-set_same (row bytes v m breadth) i s 0 (omega (arith, wide))
      ∙ sym (ap (cell_at b' v m) e ∙ ap₂ cell_of worn.value_bit worn.mark_bit ∙ worn_cell (bit_of bytes (v + i)) s small))
      (λ ne.
      get_or-set_other (row bytes v m breadth) i k s 0 ne
      ∙ get_or_row bytes v m breadth k lk
      ∙ sym (ap₂ cell_of (worn.elsewhere (v + k) (λ e. ne (omega arith)) (λ e. omega arith)) (worn.elsewhere (m + k) (λ e. omega arith) (λ e. ne (omega arith)))))
      (cases_eq k i)))
