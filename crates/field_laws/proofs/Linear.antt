-- Additive maps: what holds on the powers of two below 2 ^ m holds on every number below 2 ^ m. Assumes nothing.
use Rattle.std.proofs.Common.{◌≡◌, ℕ, zero, suc, ◌+◌, ◌-◌, ◌*◌, ◌/◌, ◌%◌, ◌^◌, ◌<◌, ◌≤◌, ◌⊎◌, sym, refl, ap, ◌∙◌, subst, ap₂, inl, inr, ⊎_elim, one-mul, pow-suc, zero-mul, arith, lit<, pow_pos}
use lib.Bits.{bit_xor, xor_assoc, xor_comm, xor_self, xor_zero_r, xor_shifted, xor_lt, xor_block, xor_mod, xor_shr}
use Rattle.std.proofs.lemmas.Bool.{cases_lt, cases_eq}
use Rattle.field_laws.specs.Polynomials.{gate, double, times, modulus}

abbrev pub Additive : (ℕ → ℕ) → Type 0
Additive f = (x y : ℕ) → f (bit_xor x y) ≡ bit_xor (f x) (f y)

pub swap_inner : (a b c d : ℕ) → bit_xor (bit_xor a b) (bit_xor c d) ≡ bit_xor (bit_xor a c) (bit_xor b d)
swap_inner a b c d =
    xor_assoc a b (bit_xor c d)
    ∙ ap (bit_xor a) (sym (xor_assoc b c d) ∙ ap (λ (x : ℕ). bit_xor x d) (xor_comm b c) ∙ xor_assoc c b d)
    ∙ sym (xor_assoc a c (bit_xor b d))

pub at_zero : (f : ℕ → ℕ) → Additive f → f 0 ≡ 0
at_zero f adds = adds 0 0 ∙ xor_self (f 0)

-- a number of m + 1 bits is one of m bits, or 2 ^ m and one of m bits
top : (m x : ℕ) → x < 2 ^ suc m → 2 ^ m ≤ x → (r : ℕ) × (r < 2 ^ m) × (bit_xor (2 ^ m) r ≡ x)
top m x h above =
    let twice = pow-suc 2 m in
    let r : ℕ = x - 2 ^ m in
    let below : r < 2 ^ m = omega arith in
    (r, below, ap (λ (p : ℕ). bit_xor p r) (sym (one-mul (2 ^ m))) ∙ xor_shifted 1 m r below ∙ ap (λ (p : ℕ). p + r) (one-mul (2 ^ m)) ∙ omega arith)

-- what holds of 0, of each power of two below 2 ^ m and of sums holds of each number below 2 ^ m
pub by_powers : (P : ℕ → Type 0) → P 0 → ((x y : ℕ) → P x → P y → P (bit_xor x y)) → (m : ℕ) → ((i : ℕ) → i < m → P (2 ^ i)) → (x : ℕ) → x < 2 ^ m → P x
by_powers P none adds zero on x h =
    let zero_is : 0 ≡ x = omega arith in
    subst P zero_is none
by_powers P none adds (suc m) on x h =
    let rest : (i : ℕ) → i < m → P (2 ^ i) = λ i k. on i (omega arith) in
    split (λ r lt. by_powers P none adds m rest r lt)
  where
    split : ((r : ℕ) → r < 2 ^ m → P r) → P x
    split low =
        ⊎_elim (low x)
        (λ above. let t = top m x h above in subst P t.2 (adds (2 ^ m) t.0 (on m (omega arith)) (low t.0 t.1)))
        (cases_lt x (2 ^ m))

pub agree : (f g : ℕ → ℕ) → Additive f → Additive g → (m : ℕ) → ((i : ℕ) → i < m → f (2 ^ i) ≡ g (2 ^ i)) → (x : ℕ) → x < 2 ^ m → f x ≡ g x
agree f g fa ga =
    by_powers (λ x. f x ≡ g x) (at_zero f fa ∙ sym (at_zero g ga))
    (λ x y p q. fa x y ∙ ap₂ bit_xor p q ∙ sym (ga x y))

pub bounded : (f : ℕ → ℕ) → Additive f → (k m : ℕ) → ((i : ℕ) → i < m → f (2 ^ i) < 2 ^ k) → (x : ℕ) → x < 2 ^ m → f x < 2 ^ k
bounded f fa k =
    by_powers (λ x. f x < 2 ^ k) (subst (λ (y : ℕ). y < 2 ^ k) (sym (at_zero f fa)) (pow_pos k))
    (λ x y p q. subst (λ (z : ℕ). z < 2 ^ k) (sym (fa x y)) (xor_lt k (f x) (f y) p q))

-- ---- the steps of a product

bit : (b : ℕ) → (b % 2 ≡ 0) ⊎ (b % 2 ≡ 1)
bit b = ⊎_elim (λ e. inl e) (λ ne. inr (omega arith)) (cases_eq (b % 2) 0)

shut : (b a : ℕ) → b % 2 ≡ 0 → gate b a ≡ 0
unfolding gate
shut b a e = ap (λ (x : ℕ). x * a) e ∙ zero-mul a

passes : (b a : ℕ) → b % 2 ≡ 1 → gate b a ≡ a
unfolding gate
passes b a e = ap (λ (x : ℕ). x * a) e ∙ one-mul a

pub gate_le : (b a : ℕ) → gate b a ≤ a
gate_le b a = ⊎_elim (λ e. let s = shut b a e in omega arith) (λ e. let s = passes b a e in omega arith) (bit b)

pub gate_adds : (b : ℕ) → Additive (gate b)
gate_adds b x y =
    ⊎_elim (λ e. shut b (bit_xor x y) e ∙ sym (ap₂ bit_xor (shut b x e) (shut b y e)))
    (λ e. passes b (bit_xor x y) e ∙ sym (ap₂ bit_xor (passes b x e) (passes b y e)))
    (bit b)

pub gate_adds_bits : (a : ℕ) → Additive (λ b. gate b a)
gate_adds_bits a x y =
    ⊎_elim
    (λ e. ⊎_elim
    (λ d. shut (bit_xor x y) a (xor_mod x y 1 ∙ ap₂ bit_xor e d) ∙ sym (ap₂ bit_xor (shut x a e) (shut y a d)))
    (λ d. passes (bit_xor x y) a (xor_mod x y 1 ∙ ap₂ bit_xor e d) ∙ sym (ap₂ bit_xor (shut x a e) (passes y a d)))
    (bit y))
    (λ e. ⊎_elim
    (λ d. passes (bit_xor x y) a (xor_mod x y 1 ∙ ap₂ bit_xor e d) ∙ sym (ap₂ bit_xor (passes x a e) (shut y a d) ∙ xor_zero_r a))
    (λ d. shut (bit_xor x y) a (xor_mod x y 1 ∙ ap₂ bit_xor e d) ∙ sym (ap₂ bit_xor (passes x a e) (passes y a d) ∙ xor_self a))
    (bit y))
    (bit x)

pub twice_adds : (x y : ℕ) → 2 * bit_xor x y ≡ bit_xor (2 * x) (2 * y)
twice_adds x y =
    let block = xor_block 1 x y 0 0 (lit< tt) (lit< tt) in
    let left : x * 2 + 0 ≡ 2 * x = omega arith in
    let right : y * 2 + 0 ≡ 2 * y = omega arith in
    let both : bit_xor x y * 2 + 0 ≡ 2 * bit_xor x y = omega arith in
    sym both ∙ sym block ∙ ap₂ bit_xor left right

pub double_adds : (m : ℕ) → Additive (double m)
unfolding double
double_adds m x y =
    let carry : 2 * bit_xor x y / 2 ^ m ≡ bit_xor (2 * x / 2 ^ m) (2 * y / 2 ^ m) = ap (λ (z : ℕ). z / 2 ^ m) (twice_adds x y) ∙ xor_shr (2 * x) (2 * y) m in
    ap₂ bit_xor (twice_adds x y) (ap (λ (z : ℕ). gate z (modulus m)) carry ∙ gate_adds_bits (modulus m) (2 * x / 2 ^ m) (2 * y / 2 ^ m))
    ∙ swap_inner (2 * x) (2 * y) (gate (2 * x / 2 ^ m) (modulus m)) (gate (2 * y / 2 ^ m) (modulus m))

pub times_adds : (m n b : ℕ) → Additive (λ a. times m n a b)
unfolding times
times_adds m zero b x y = refl
times_adds m (suc n) b x y =
    ap₂ bit_xor (gate_adds b x y) (ap (double m) (times_adds m n (b / 2) x y) ∙ double_adds m (times m n x (b / 2)) (times m n y (b / 2)))
    ∙ swap_inner (gate b x) (gate b y) (double m (times m n x (b / 2))) (double m (times m n y (b / 2)))

pub times_adds_bits : (m n a : ℕ) → Additive (times m n a)
unfolding times
times_adds_bits m zero a x y = refl
times_adds_bits m (suc n) a x y =
    ap₂ bit_xor (gate_adds_bits a x y)
    (ap (λ (z : ℕ). double m (times m n a z)) (xor_shr x y 1) ∙ ap (double m) (times_adds_bits m n a (x / 2) (y / 2))
    ∙ double_adds m (times m n a (x / 2)) (times m n a (y / 2)))
    ∙ swap_inner (gate x a) (gate y a) (double m (times m n a (x / 2))) (double m (times m n a (y / 2)))
