-- The grid keeps the laws of a medium, and its calls change just what they should. Assumes nothing.
use Rattle.std.proofs.Common.{◌≡◌, ℕ, suc, ◌+◌, ◌*◌, ◌<◌, ◌≤◌, List, [], ◌∷◌, map, length, set, refl, ap, ◌∙◌, ap₂, arith}
use borrow.Rule.Slice.PartMut.{put_mid}
use Rattle.std.specs.List.{AllByRecursion}
use Rattle.std.proofs.lemmas.List.{length-map, map-set}
use Rattle.std.proofs.lemmas.Bool.Decides.{nat_tests}
use Rattle.media_laws.specs.Grid.{grid, GridFits, state_of, page_bytes, put_byte, put_bytes}
use Rattle.media_laws.specs.Model.{LawfulMedium, Changed, put_to, stored}
use Rattle.media_laws.proofs.Pages.{length_page, page_put, page_kept, page_set, page_unset}

state_small : (b : ℕ) → state_of b < 3
state_small b = grind (arith, nat_tests)

all_states : (bytes : List ℕ) → AllByRecursion (λ s. s < 3) (map state_of bytes)
all_states [] = tt
all_states (b ∷ bytes) = (state_small b, all_states bytes)

pub grid_lawful : (bytes : List ℕ) (pages breadth : ℕ) → GridFits bytes pages breadth → LawfulMedium (grid bytes pages breadth)
grid_lawful bytes pages breadth h =
    record {
      some_pages = h.0.0;
      few_pages = h.0.1;
      some_cells = h.1.0;
      few_cells = h.1.1;
      states = λ p l. (length-map (page_bytes bytes breadth p) state_of ∙ length_page bytes breadth pages h.2 p l, all_states (page_bytes bytes breadth p));
    }

put_state : (b v : ℕ) → v < 2 → state_of (put_byte b v) ≡ put_to (state_of b) v
put_state b v l = grind (arith, nat_tests)

pub put_states : (bytes cells : List ℕ) → AllByRecursion (λ v. v < 2) cells → map state_of (put_bytes bytes cells) ≡ stored (map state_of bytes) cells
put_states [] cells a = refl
put_states (b ∷ bytes) [] a = refl
put_states (b ∷ bytes) (v ∷ cells) a = ap₂ (λ s rest. s ∷ rest) (put_state b v a.0) (put_states bytes cells a.1)

pub length_put : (bytes cells : List ℕ) → length (put_bytes bytes cells) ≡ length bytes
length_put [] cells = refl
length_put (b ∷ bytes) [] = refl
length_put (b ∷ bytes) (v ∷ cells) = ap suc (length_put bytes cells)

module _ (bytes : List ℕ) (pages breadth : ℕ) (fits : GridFits bytes pages breadth) (p : ℕ) (within : p < pages) where
  pub grid_put : (cells : List ℕ) → AllByRecursion (λ v. v < 2) cells → Changed (grid bytes pages breadth) (grid (put_mid (p * breadth) breadth bytes (put_bytes (page_bytes bytes breadth p) cells)) pages breadth) p (stored (map state_of (page_bytes bytes breadth p)) cells)
  grid_put cells small =
      let new = put_bytes (page_bytes bytes breadth p) cells in
      let long : length new ≡ breadth = length_put (page_bytes bytes breadth p) cells ∙ length_page bytes breadth pages fits.2 p within in
      record {
        pages = refl;
        breadth = refl;
        here = ap (map state_of) (page_put bytes breadth pages fits.2 new p within long) ∙ put_states (page_bytes bytes breadth p) cells small;
        elsewhere = λ q l ne. ap (map state_of) (page_kept bytes breadth pages fits.2 new p q within l ne long);
      }

  pub grid_wear : (i s : ℕ) → i < breadth → s ≤ 2 → Changed (grid bytes pages breadth) (grid (set bytes (p * breadth + i) s) pages breadth) p (set (map state_of (page_bytes bytes breadth p)) i s)
  grid_wear i s l small =
      let same : state_of s ≡ s = grind (arith, nat_tests) in
      record {
        pages = refl;
        breadth = refl;
        here = ap (map state_of) (page_set bytes breadth pages fits.2 p i s within l) ∙ map-set state_of (page_bytes bytes breadth p) i s ∙ ap (set (map state_of (page_bytes bytes breadth p)) i) same;
        elsewhere = λ q _ ne. ap (map state_of) (page_unset bytes breadth pages fits.2 p q i s l ne);
      }
