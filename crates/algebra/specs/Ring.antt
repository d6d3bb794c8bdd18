-- Expressions over a ring of characteristic two, and their normal form: the set of monomials, in order, that are left when equal ones
-- have cancelled. antt computes it. Assumes nothing.
use Rattle.std.specs.Prelude.{ℕ, suc, Bool, true, false, List, [], ◌∷◌, slice_index_or}
use Prim.Native.Nat.{compare, Ordering}
use Rattle.algebra.specs.Field.{Ring}

infixl 6 ◌⊕◌
infixl 7 ◌⊗◌
pub data Expr : Type 0 where
  var : ℕ → Expr
  𝟘 : Expr
  𝟙 : Expr
  ◌⊕◌ : Expr → Expr → Expr
  ◌⊗◌ : Expr → Expr → Expr

-- the value of an expression, with the variables' values in a list
abbrev pub eval : (R : Ring) → List R.carrier → Expr → R.carrier
eval R env (var i) = slice_index_or env i R.zero
eval R env 𝟘 = R.zero
eval R env 𝟙 = R.one
eval R env (a ⊕ b) = R.add (eval R env a) (eval R env b)
eval R env (a ⊗ b) = R.mul (eval R env a) (eval R env b)

-- the two sides of an equation, as a function of a variable for each value of the list
abbrev pub Equation : {A : Type 0} → List A → Type 0
Equation [] = Expr × Expr
Equation (x ∷ env) = Expr → Equation env

abbrev pub sides : {A : Type 0} (env : List A) → ℕ → Equation env → Expr × Expr
sides [] i e = e
sides (x ∷ env) i e = sides env (suc i) (e (var i))

-- a monomial is the sorted list of its variables
abbrev pub Monomial : Type 0
Monomial = List ℕ

abbrev pub then_by : Ordering → Ordering → Ordering
then_by Ordering.lt o = Ordering.lt
then_by Ordering.eq o = o
then_by Ordering.gt o = Ordering.gt

abbrev pub order : Monomial → Monomial → Ordering
order [] [] = Ordering.eq
order [] (j ∷ n) = Ordering.lt
order (i ∷ m) [] = Ordering.gt
order (i ∷ m) (j ∷ n) = then_by (compare i j) (order m n)

abbrev pub put_var : Ordering → ℕ → ℕ → Monomial → Monomial → Monomial
put_var Ordering.lt i j m rest = i ∷ j ∷ m
put_var Ordering.eq i j m rest = i ∷ j ∷ m
put_var Ordering.gt i j m rest = j ∷ rest

abbrev pub with_var : ℕ → Monomial → Monomial
with_var i [] = i ∷ []
with_var i (j ∷ m) = put_var (compare i j) i j m (with_var i m)

abbrev pub monomial_product : Monomial → Monomial → Monomial
monomial_product [] n = n
monomial_product (i ∷ m) n = with_var i (monomial_product m n)

abbrev pub put_monomial : Ordering → Monomial → Monomial → List Monomial → List Monomial → List Monomial
put_monomial Ordering.lt m n p rest = m ∷ n ∷ p
put_monomial Ordering.eq m n p rest = p
put_monomial Ordering.gt m n p rest = n ∷ rest

-- one monomial more; where it was there already, it is gone
abbrev pub with_monomial : Monomial → List Monomial → List Monomial
with_monomial m [] = m ∷ []
with_monomial m (n ∷ p) = put_monomial (order m n) m n p (with_monomial m p)

abbrev pub normal_sum : List Monomial → List Monomial → List Monomial
normal_sum [] q = q
normal_sum (m ∷ p) q = with_monomial m (normal_sum p q)

-- m times p, and q
abbrev pub add_multiple : Monomial → List Monomial → List Monomial → List Monomial
add_multiple m [] q = q
add_multiple m (n ∷ p) q = with_monomial (monomial_product m n) (add_multiple m p q)

abbrev pub normal_product : List Monomial → List Monomial → List Monomial
normal_product [] q = []
normal_product (m ∷ p) q = add_multiple m q (normal_product p q)

abbrev pub normal : Expr → List Monomial
normal (var i) = (i ∷ []) ∷ []
normal 𝟘 = []
normal 𝟙 = [] ∷ []
normal (a ⊕ b) = normal_sum (normal a) (normal b)
normal (a ⊗ b) = normal_product (normal a) (normal b)

abbrev pub is_empty : List Monomial → Bool
is_empty [] = true
is_empty (m ∷ p) = false
