-- What one pass over arrays of a field's elements leaves. Assumes nothing.
use Rattle.std.specs.Prelude.{◌≡◌, ℕ, ◌<◌, ◌≤◌, Bool, true, false, not, ◌&&◌, ◌⊎◌, List, length, Some, ◌==◌, ◌≢◌, slice_index}
use Rattle.reed_solomon_laws.proofs.Counts.{readable}
use Rattle.field_laws.specs.Fields.{FieldModel, size}
use Rattle.reed_solomon_laws.proofs.Arrays.{Below, Eliminated, Located, miss}

-- two arrays of elements, of one length
abbrev pub Beside : FieldModel → List ℕ → List ℕ → Type 0
Beside f p v = (length v ≡ length p) × Below f (length p) p × Below f (length p) v

-- each place of v follows a rule
abbrev pub Follows : List ℕ → ℕ → (ℕ → ℕ) → Type 0
Follows v n rule = (j : ℕ) → j < n → slice_index v j ≡ rule j

-- v + c·p, a·v + b·p and (X + x)·p, at a place
abbrev pub plus_multiple : FieldModel → ℕ → List ℕ → List ℕ → ℕ → ℕ
plus_multiple f c p v j = f.sum (slice_index v j) (f.product c (slice_index p j))

abbrev pub combination : FieldModel → ℕ → List ℕ → ℕ → List ℕ → ℕ → ℕ
combination f a v b p j = f.sum (f.product a (slice_index v j)) (f.product b (slice_index p j))

abbrev pub with_root : FieldModel → ℕ → List ℕ → ℕ → ℕ
with_root f x p j = f.product (f.sum j x) (slice_index p j)

-- the symbols read, elements at no more places than the arrays v and p have, and a mark at each for those to skip
abbrev pub Rows : FieldModel → (symbols skip v p : List ℕ) → Type 0
Rows f symbols skip v p =
    (length v ≤ size f) × (length symbols ≤ length v) × (length symbols ≤ length skip) × (length p ≡ length v) × Below f (length symbols) symbols

-- t = (y + g) / p
abbrev pub Over : FieldModel → (y g p t : ℕ) → Type 0
Over f y g p t = (i : ℕ) × (f.reciprocal p ≡ Some i) × (t ≡ f.product (f.sum y g) i)

-- an array has an element at place x
abbrev pub HasElement : FieldModel → ℕ → List ℕ → Type 0
HasElement f x v = (x < length v) × (slice_index v x < size f)

-- four arrays of n elements
abbrev pub Pairs : FieldModel → ℕ → (q e u w : List ℕ) → Type 0
Pairs f n q e u w =
    ((length q ≡ n) × (length e ≡ n) × (length u ≡ n) × (length w ≡ n)) × (Below f n q × Below f n e × Below f n u × Below f n w)

-- which pair was the pivot at x, why, and what became of the two
abbrev pub Advanced : FieldModel → (n x t : ℕ) → ℕ × ℕ → (q₀ e₀ q₁ e₁ q₀' e₀' q₁' e₁' : List ℕ) → Bool → Type 0
Advanced f n x t b q₀ e₀ q₁ e₁ q₀' e₀' q₁' e₁' true =
    (miss f x t q₀ e₀ ≢ 0) × ((miss f x t q₁ e₁ ≡ 0) ⊎ (b.0 ≤ b.1)) × Eliminated f n x (miss f x t q₀ e₀) (miss f x t q₁ e₁) q₀ e₀ q₁ e₁ q₀' e₀' q₁' e₁'
Advanced f n x t b q₀ e₀ q₁ e₁ q₀' e₀' q₁' e₁' false =
    ((miss f x t q₀ e₀ ≡ 0) ⊎ ((miss f x t q₁ e₁ ≢ 0) × (b.1 < b.0))) × Eliminated f n x (miss f x t q₁ e₁) (miss f x t q₀ e₀) q₁ e₁ q₀ e₀ q₁' e₁' q₀' e₀'

-- a word of elements, its marks, and the interpolant and the product of a choice of its places
abbrev pub Readings : FieldModel → (word marks g p : List ℕ) → Type 0
Readings f word marks g p =
    (length word ≤ size f)
    × ((length marks ≡ length word) × (length g ≡ length word) × (length p ≡ length word))
    × (Below f (length word) word × Below f (length word) g × Below f (length word) p)

abbrev pub Lengths : ℕ → (q e u w : List ℕ) → Type 0
Lengths n q e u w = (length q ≡ n) × (length e ≡ n) × (length u ≡ n) × (length w ≡ n)

-- the places left are the readable ones where e does not vanish
abbrev pub Skips : ℕ → (marks e skip : List ℕ) → Type 0
Skips n marks e skip = (j : ℕ) → j < n → readable skip j ≡ (readable marks j && not (slice_index e j == 0))

abbrev pub Rightful : FieldModel → (word marks g p skip : List ℕ) → Type 0
Rightful f word marks g p skip = (e : List ℕ) × Located f (length word) word marks g p e × Skips (length word) marks e skip
