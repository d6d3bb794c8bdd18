-- A row that is filled from another, place by place. Assumes nothing.
use Rattle.std.proofs.Common.{◌≡◌, ℕ, zero, suc, ◌+◌, ◌<◌, ◌≤◌, List, [], ◌∷◌, map, length, get_or, take, set, sym, refl, ap, ◌∙◌, le_of_suc-le-suc, not-suc-le-zero, add-one, take_all}
use Rattle.media_laws.specs.Grid.{put_byte, put_bytes}

pub filled_all : (f : ℕ → ℕ) (xs ys : List ℕ) (i : ℕ) → length xs ≤ i → length ys ≤ i → take i ys ≡ map f (take i xs) → ys ≡ map f xs
filled_all f xs ys i lx ly e = sym (take_all i ys ly) ∙ e ∙ ap (map f) (take_all i xs lx)

pub put_none : (bytes : List ℕ) → bytes ≡ put_bytes bytes []
put_none [] = refl
put_none (b ∷ bytes) = refl

put_suc : (bytes cells : List ℕ) (i : ℕ) → i < length bytes → i < length cells → set (put_bytes bytes (take i cells)) i (put_byte (get_or (put_bytes bytes (take i cells)) i 0) (get_or cells i 0)) ≡ put_bytes bytes (take (suc i) cells)
put_suc [] cells i lb lc = absurd (not-suc-le-zero lb)
put_suc (b ∷ bytes) [] i lb lc = absurd (not-suc-le-zero lc)
put_suc (b ∷ bytes) (v ∷ cells) zero lb lc = ap (λ rest. put_byte b v ∷ rest) (put_none bytes)
put_suc (b ∷ bytes) (v ∷ cells) (suc i) lb lc =
    ap (λ rest. put_byte b (get_or (v ∷ cells) 0 0) ∷ rest) (put_suc bytes cells i (le_of_suc-le-suc lb) (le_of_suc-le-suc lc))

-- one more cell is put
pub put_more : (bytes cells : List ℕ) (i : ℕ) → i < length bytes → i < length cells → set (put_bytes bytes (take i cells)) i (put_byte (get_or (put_bytes bytes (take i cells)) i 0) (get_or cells i 0)) ≡ put_bytes bytes (take (i + 1) cells)
put_more bytes cells i lb lc = put_suc bytes cells i lb lc ∙ ap (λ n. put_bytes bytes (take n cells)) (sym (add-one i))
