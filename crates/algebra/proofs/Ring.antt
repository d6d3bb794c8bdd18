-- `by-ring` proves an equation that holds in every commutative ring of characteristic two. Assumes nothing.
use Rattle.std.proofs.Common.{◌≡◌, ℕ, T, List, [], ◌∷◌, get_or, sym, refl, ap, ◌∙◌, subst, ap₂, eqb→eq}
use Prim.Native.Nat.{compare, Ordering}
use lib.Dec.{compare_is_eq}
use Rattle.algebra.specs.Field.{Ring}
use Rattle.algebra.specs.Ring.{
  Expr,
  var,
  𝟘,
  𝟙,
  ◌⊕◌,
  ◌⊗◌,
  eval,
  Equation,
  sides,
  Monomial,
  then_by,
  order,
  put_var,
  with_var,
  monomial_product,
  put_monomial,
  with_monomial,
  normal_sum,
  add_multiple,
  normal_product,
  normal,
  is_empty,
}
use Rattle.algebra.proofs.Field.{
  add-zero,
  mul_one,
  add-mul,
  add_add,
  same_from_zero,
  add_left_comm,
  mul_left_comm,
  mul-zero,
  zero-mul,
}

both_eq : (o o' : Ordering) → then_by o o' ≡ Ordering.eq → (o ≡ Ordering.eq) × (o' ≡ Ordering.eq)
both_eq Ordering.lt o' e = (e, cc)
both_eq Ordering.eq o' e = (refl, e)
both_eq Ordering.gt o' e = (e, cc)

order_same : (m n : Monomial) → order m n ≡ Ordering.eq → m ≡ n
order_same [] [] e = refl
order_same [] (j ∷ n) e = cc
order_same (i ∷ m) [] e = cc
order_same (i ∷ m) (j ∷ n) e =
    let es = both_eq (compare i j) (order m n) e in
    let head : i ≡ j = eqb→eq i j (subst (λ o. T (compare_is_eq o)) (sym es.0) tt) in
    ap₂ ◌∷◌ head (order_same m n es.1)

module _ (R : Ring) (env : List R.carrier) where
  open R use {carrier, zero, one, add, mul}

  monomial_value : Monomial → carrier
  monomial_value [] = one
  monomial_value (i ∷ m) = mul (get_or env i zero) (monomial_value m)

  sum_value : List Monomial → carrier
  sum_value [] = zero
  sum_value (m ∷ p) = add (monomial_value m) (sum_value p)

  put_var_value : (o : Ordering) (i j : ℕ) (m rest : Monomial) →
      monomial_value rest ≡ mul (get_or env i zero) (monomial_value m) →
      monomial_value (put_var o i j m rest) ≡ mul (get_or env i zero) (mul (get_or env j zero) (monomial_value m))
  unfolding monomial_value
  put_var_value Ordering.lt i j m rest e = refl
  put_var_value Ordering.eq i j m rest e = refl
  put_var_value Ordering.gt i j m rest e = ap (mul (get_or env j zero)) e ∙ mul_left_comm R (get_or env j zero) (get_or env i zero) (monomial_value m)

  with_var_value : (i : ℕ) (m : Monomial) → monomial_value (with_var i m) ≡ mul (get_or env i zero) (monomial_value m)
  unfolding monomial_value
  with_var_value i [] = refl
  with_var_value i (j ∷ m) = put_var_value (compare i j) i j m (with_var i m) (with_var_value i m)

  monomial_product_value : (m n : Monomial) → monomial_value (monomial_product m n) ≡ mul (monomial_value m) (monomial_value n)
  unfolding monomial_value
  monomial_product_value [] n = sym (R.one-mul (monomial_value n))
  monomial_product_value (i ∷ m) n =
      with_var_value i (monomial_product m n)
      ∙ ap (mul (get_or env i zero)) (monomial_product_value m n)
      ∙ sym (R.mul_assoc (get_or env i zero) (monomial_value m) (monomial_value n))

  put_monomial_value : (o : Ordering) (m n : Monomial) (p rest : List Monomial) →
      (o ≡ Ordering.eq → m ≡ n) →
      sum_value rest ≡ add (monomial_value m) (sum_value p) →
      sum_value (put_monomial o m n p rest) ≡ add (monomial_value m) (add (monomial_value n) (sum_value p))
  unfolding sum_value
  put_monomial_value Ordering.lt m n p rest same e = refl
  put_monomial_value Ordering.eq m n p rest same e =
      sym (add_add R (monomial_value m) (sum_value p))
      ∙ ap (λ k. add (monomial_value m) (add (monomial_value k) (sum_value p))) (same refl)
  put_monomial_value Ordering.gt m n p rest same e =
      ap (add (monomial_value n)) e ∙ add_left_comm R (monomial_value n) (monomial_value m) (sum_value p)

  with_monomial_value : (m : Monomial) (p : List Monomial) → sum_value (with_monomial m p) ≡ add (monomial_value m) (sum_value p)
  unfolding sum_value
  with_monomial_value m [] = refl
  with_monomial_value m (n ∷ p) =
      put_monomial_value (order m n) m n p (with_monomial m p) (order_same m n) (with_monomial_value m p)

  normal_sum_value : (p q : List Monomial) → sum_value (normal_sum p q) ≡ add (sum_value p) (sum_value q)
  unfolding sum_value
  normal_sum_value [] q = sym (R.zero-add (sum_value q))
  normal_sum_value (m ∷ p) q =
      with_monomial_value m (normal_sum p q)
      ∙ ap (add (monomial_value m)) (normal_sum_value p q)
      ∙ sym (R.add_assoc (monomial_value m) (sum_value p) (sum_value q))

  add_multiple_value : (m : Monomial) (p q : List Monomial) →
      sum_value (add_multiple m p q) ≡ add (mul (monomial_value m) (sum_value p)) (sum_value q)
  unfolding sum_value
  add_multiple_value m [] q = sym (R.zero-add (sum_value q)) ∙ ap (λ s. add s (sum_value q)) (sym (mul-zero R (monomial_value m)))
  add_multiple_value m (n ∷ p) q =
      with_monomial_value (monomial_product m n) (add_multiple m p q)
      ∙ ap₂ add (monomial_product_value m n) (add_multiple_value m p q)
      ∙ sym (R.add_assoc (mul (monomial_value m) (monomial_value n)) (mul (monomial_value m) (sum_value p)) (sum_value q))
      ∙ ap (λ s. add s (sum_value q)) (sym (R.mul-add (monomial_value m) (monomial_value n) (sum_value p)))

  normal_product_value : (p q : List Monomial) → sum_value (normal_product p q) ≡ mul (sum_value p) (sum_value q)
  unfolding sum_value
  normal_product_value [] q = sym (zero-mul R (sum_value q))
  normal_product_value (m ∷ p) q =
      add_multiple_value m q (normal_product p q)
      ∙ ap (add (mul (monomial_value m) (sum_value q))) (normal_product_value p q)
      ∙ sym (add-mul R (monomial_value m) (sum_value p) (sum_value q))

  normal_value : (e : Expr) → sum_value (normal e) ≡ eval R env e
  unfolding sum_value monomial_value
  normal_value (var i) = add-zero R (mul (get_or env i zero) one) ∙ mul_one R (get_or env i zero)
  normal_value 𝟘 = refl
  normal_value 𝟙 = add-zero R one
  normal_value (a ⊕ b) = normal_sum_value (normal a) (normal b) ∙ ap₂ add (normal_value a) (normal_value b)
  normal_value (a ⊗ b) = normal_product_value (normal a) (normal b) ∙ ap₂ mul (normal_value a) (normal_value b)

  empty_value : (p : List Monomial) → T (is_empty p) → sum_value p ≡ zero
  unfolding sum_value
  empty_value [] t = refl
  empty_value (m ∷ p) t = absurd t

  same_values : (a b : Expr) → T (is_empty (normal (a ⊕ b))) → eval R env a ≡ eval R env b
  same_values a b t =
      same_from_zero R (eval R env a) (eval R env b) (sym (normal_value (a ⊕ b)) ∙ empty_value (normal (a ⊕ b)) t)

-- the last argument is `tt`
pub by_ring : (R : Ring) (env : List R.carrier) (e : Equation env) →
    T (is_empty (normal ((sides env 0 e).0 ⊕ (sides env 0 e).1))) →
    eval R env (sides env 0 e).0 ≡ eval R env (sides env 0 e).1
by_ring R env e = same_values R env (sides env 0 e).0 (sides env 0 e).1

module _ (R : Ring) where
  open R use {carrier, add, mul}

  pub square_add : (a b : carrier) → mul (add a b) (add a b) ≡ add (mul a a) (mul b b)
  square_add a b = by_ring R (a ∷ b ∷ []) (λ a b. ((a ⊕ b) ⊗ (a ⊕ b), a ⊗ a ⊕ b ⊗ b)) tt

  -- to add d₁ times the pair (q₀, e₀) to d₀ times (q₁, e₁) multiplies q₁·e₀ + e₁·q₀ by d₀
  pub cross_step : (d₀ d₁ q₀ e₀ q₁ e₁ : carrier) →
      add (mul (add (mul d₀ q₁) (mul d₁ q₀)) e₀) (mul (add (mul d₀ e₁) (mul d₁ e₀)) q₀) ≡ mul d₀ (add (mul q₁ e₀) (mul e₁ q₀))
  cross_step d₀ d₁ q₀ e₀ q₁ e₁ =
      by_ring R (d₀ ∷ d₁ ∷ q₀ ∷ e₀ ∷ q₁ ∷ e₁ ∷ [])
      (λ d₀ d₁ q₀ e₀ q₁ e₁. ((d₀ ⊗ q₁ ⊕ d₁ ⊗ q₀) ⊗ e₀ ⊕ (d₀ ⊗ e₁ ⊕ d₁ ⊗ e₀) ⊗ q₀, d₀ ⊗ (q₁ ⊗ e₀ ⊕ e₁ ⊗ q₀)))
      tt

-- the parts of the product of a + b·y and u + v·y, where y² = y + c, by any sum and product
module _ {A : Type 0} (◌+◌ ◌*◌ : A → A → A) where
  infixl 6 ◌+◌
  infixl 7 ◌*◌
  abbrev pub low : (c a b u v : A) → A
  low c a b u v = a * u + c * (b * v)

  abbrev pub high : (a b u v : A) → A
  high a b u v = a * v + b * u + b * v

module _ (R : Ring) (c a b u v s t : R.carrier) where
  open R use {add, mul}

  pub low_assoc : low add mul c (low add mul c a b u v) (high add mul a b u v) s t ≡ low add mul c a b (low add mul c u v s t) (high add mul u v s t)
  low_assoc =
      by_ring R (c ∷ a ∷ b ∷ u ∷ v ∷ s ∷ t ∷ [])
      (λ c a b u v s t. (
        low ◌⊕◌ ◌⊗◌ c (low ◌⊕◌ ◌⊗◌ c a b u v) (high ◌⊕◌ ◌⊗◌ a b u v) s t,
        low ◌⊕◌ ◌⊗◌ c a b (low ◌⊕◌ ◌⊗◌ c u v s t) (high ◌⊕◌ ◌⊗◌ u v s t),
      ))
      tt

  pub high_assoc : high add mul (low add mul c a b u v) (high add mul a b u v) s t ≡ high add mul a b (low add mul c u v s t) (high add mul u v s t)
  high_assoc =
      by_ring R (c ∷ a ∷ b ∷ u ∷ v ∷ s ∷ t ∷ [])
      (λ c a b u v s t. (
        high ◌⊕◌ ◌⊗◌ (low ◌⊕◌ ◌⊗◌ c a b u v) (high ◌⊕◌ ◌⊗◌ a b u v) s t,
        high ◌⊕◌ ◌⊗◌ a b (low ◌⊕◌ ◌⊗◌ c u v s t) (high ◌⊕◌ ◌⊗◌ u v s t),
      ))
      tt
