-- The two pairs of the key equation together, one place after the other. Assumes nothing.
use Rattle.std.proofs.Common.{◌≡◌, ℕ, ◌+◌, ◌<◌, ◌≤◌, ◌≢◌, ◌⊎◌, ◌↔◌, [], ◌∷◌, ◌∙◌, ap₂, inl, inr, arith}
use Rattle.algebra.specs.Field.{Field}
use Rattle.algebra.specs.Places.{Polynomial}
use Rattle.algebra.specs.Sums.{Injective}
use Rattle.algebra.proofs.Places.{polynomial_weaken}
use Rattle.algebra.proofs.Ring.{by_ring}
use Rattle.algebra.specs.Ring.{𝟘, ◌⊕◌, ◌⊗◌}
use Rattle.reed_solomon_laws.specs.KeyEquation.{Pair, gap, cross, combined, rooted}
use Rattle.reed_solomon_laws.proofs.Steps.{pair_same, pair_fewer, pivot_more, other_more, gap_somewhere, cross_more, cross_turned, first_pair, second_pair, cross_first}

-- both pairs meet the equation at the places passed, and are independent at the others
pub record State (F : Field) (place : ℕ → F.ring.carrier) (n : ℕ) (t : ℕ → F.ring.carrier) (Passed : ℕ → Type 0) (q₀ e₀ q₁ e₁ : ℕ → F.ring.carrier) (b₀ b₁ : ℕ) : Type 0 where
  pub pair₀ : Pair F place n t Passed q₀ e₀ b₀ b₀
  pub pair₁ : Pair F place n t Passed q₁ e₁ b₁ (b₁ + 1)
  pub independent : (j : ℕ) → j < n → (Passed j → ⊥) → cross F q₀ e₀ q₁ e₁ j ≢ F.ring.zero

module _ (F : Field) (place : ℕ → F.ring.carrier) (n : ℕ) (t : ℕ → F.ring.carrier) where
  open F.ring use {carrier, zero as 𝟎, one, add, mul}

  pub state_first : (P : ℕ → Type 0) → ((j : ℕ) → P j → ⊥) → State F place n t P (λ j. one) (λ j. 𝟎) (λ j. 𝟎) (λ j. one) 1 0
  state_first P none = record {
    pair₀ = first_pair F place n t P none;
    pair₁ = second_pair F place n t P none;
    independent = λ j l p. cross_first F place n t j;
  }

  -- the same arrays and places, said in another way
  pub state_same : (P Q : ℕ → Type 0) (q₀ e₀ q₁ e₁ q₀' e₀' q₁' e₁' : ℕ → carrier) (b₀ b₁ : ℕ) →
      ((j : ℕ) → j < n → P j ↔ Q j) →
      ((j : ℕ) → j < n → q₀ j ≡ q₀' j) → ((j : ℕ) → j < n → e₀ j ≡ e₀' j) → ((j : ℕ) → j < n → q₁ j ≡ q₁' j) → ((j : ℕ) → j < n → e₁ j ≡ e₁' j) →
      State F place n t P q₀ e₀ q₁ e₁ b₀ b₁ → State F place n t Q q₀' e₀' q₁' e₁' b₀ b₁
  state_same P Q q₀ e₀ q₁ e₁ q₀' e₀' q₁' e₁' b₀ b₁ same sq₀ se₀ sq₁ se₁ s = record {
    pair₀ = pair_fewer F place n t P Q q₀' e₀' b₀ b₀ (λ j l. (same j l).1) (pair_same F place n t P q₀ e₀ q₀' e₀' b₀ b₀ sq₀ se₀ s.pair₀);
    pair₁ = pair_fewer F place n t P Q q₁' e₁' b₁ (b₁ + 1) (λ j l. (same j l).1) (pair_same F place n t P q₁ e₁ q₁' e₁' b₁ (b₁ + 1) sq₁ se₁ s.pair₁);
    independent = λ j l no z. s.independent j l (λ p. no ((same j l).0 p)) (ap₂ (λ r u. add (mul r u) (mul (q₁ j) (e₀ j))) (sq₀ j l) (se₁ j l) ∙ ap₂ (λ r u. add (mul (q₀' j) (e₁' j)) (mul r u)) (sq₁ j l) (se₀ j l) ∙ z);
  }

  module _ (apart : Injective n place) (P : ℕ → Type 0) (q₀ e₀ q₁ e₁ : ℕ → carrier) (b₀ b₁ x : ℕ) (s : State F place n t P q₀ e₀ q₁ e₁ b₀ b₁) (within : x < n) where
    -- a place that is not passed is missed by one of them
    pub second_misses : (P x → ⊥) → gap F place n t q₀ e₀ x ≡ 𝟎 → gap F place n t q₁ e₁ x ≢ 𝟎
    second_misses new = gap_somewhere F place n t q₀ e₀ q₁ e₁ x (s.independent x within new)

    pub first_pivot : gap F place n t q₀ e₀ x ≢ 𝟎 → (gap F place n t q₁ e₁ x ≡ 𝟎) ⊎ (b₀ ≤ b₁) →
        State F place n t (λ j. P j ⊎ (j ≡ x)) (rooted F place x q₀) (rooted F place x e₀)
        (combined F (gap F place n t q₀ e₀ x) q₁ (gap F place n t q₁ e₁ x) q₀) (combined F (gap F place n t q₀ e₀ x) e₁ (gap F place n t q₁ e₁ x) e₀) (b₀ + 1) b₁
    first_pivot misses fits = record {
      pair₀ = pivot_more F place n t P q₀ e₀ b₀ b₀ x s.pair₀;
      pair₁ = other_more F place n t P q₀ e₀ q₁ e₁ b₀ b₀ b₁ (b₁ + 1) x s.pair₀ s.pair₁ (elim fits [ inl z ↦ inl z | inr h ↦ inr (h, omega arith) ]);
      independent = λ j l no. cross_more F place n t apart (gap F place n t q₀ e₀ x) (gap F place n t q₁ e₁ x) q₀ e₀ q₁ e₁ x j within l (λ e. no (inr e)) misses (s.independent j l (λ p. no (inl p)));
    }

    pub second_pivot : gap F place n t q₁ e₁ x ≢ 𝟎 → (gap F place n t q₀ e₀ x ≡ 𝟎) ⊎ (b₁ < b₀) →
        State F place n t (λ j. P j ⊎ (j ≡ x))
        (combined F (gap F place n t q₁ e₁ x) q₀ (gap F place n t q₀ e₀ x) q₁) (combined F (gap F place n t q₁ e₁ x) e₀ (gap F place n t q₀ e₀ x) e₁)
        (rooted F place x q₁) (rooted F place x e₁) b₀ (b₁ + 1)
    second_pivot misses fits = record {
      pair₀ = other_more F place n t P q₁ e₁ q₀ e₀ b₁ (b₁ + 1) b₀ b₀ x s.pair₁ s.pair₀ (elim fits [ inl z ↦ inl z | inr h ↦ inr (omega arith, omega arith) ]);
      pair₁ = pivot_more F place n t P q₁ e₁ b₁ (b₁ + 1) x s.pair₁;
      independent = λ j l no z. cross_more F place n t apart (gap F place n t q₁ e₁ x) (gap F place n t q₀ e₀ x) q₁ e₁ q₀ e₀ x j within l (λ e. no (inr e)) misses
          (λ w. s.independent j l (λ p. no (inl p)) (cross_turned F place n t q₀ e₀ q₁ e₁ j ∙ w))
          (cross_turned F place n t (rooted F place x q₁) (rooted F place x e₁) (combined F (gap F place n t q₁ e₁ x) q₀ (gap F place n t q₀ e₀ x) q₁) (combined F (gap F place n t q₁ e₁ x) e₀ (gap F place n t q₀ e₀ x) e₁) j ∙ z);
    }

  -- the pair with the smaller bound
  pub record Solved (Passed : ℕ → Type 0) (q e : ℕ → carrier) (b : ℕ) : Type 0 where
    pub top : Polynomial F.ring place n b q
    pub bottom : Polynomial F.ring place n (b + 1) e
    pub meets : (j : ℕ) → j < n → Passed j → q j ≡ mul (t j) (e j)
    pub alive : (j : ℕ) → j < n → (Passed j → ⊥) → q j ≡ 𝟎 → e j ≡ 𝟎 → ⊥

  pub solved_first : (P : ℕ → Type 0) (q₀ e₀ q₁ e₁ : ℕ → carrier) (b₀ b₁ : ℕ) → State F place n t P q₀ e₀ q₁ e₁ b₀ b₁ → Solved P q₀ e₀ b₀
  solved_first P q₀ e₀ q₁ e₁ b₀ b₁ s = record {
    top = s.pair₀.top;
    bottom = polynomial_weaken F.ring place n b₀ (b₀ + 1) e₀ (omega arith) s.pair₀.bottom;
    meets = s.pair₀.meets;
    alive = λ j l no zq ze. s.independent j l no (ap₂ (λ r u. add (mul r (e₁ j)) (mul (q₁ j) u)) zq ze ∙ vanish j);
  }
    where
      vanish : (j : ℕ) → add (mul 𝟎 (e₁ j)) (mul (q₁ j) 𝟎) ≡ 𝟎
      vanish j = by_ring F.ring (e₁ j ∷ q₁ j ∷ []) (λ a b. (𝟘 ⊗ a ⊕ b ⊗ 𝟘, 𝟘)) tt

  pub solved_second : (P : ℕ → Type 0) (q₀ e₀ q₁ e₁ : ℕ → carrier) (b₀ b₁ : ℕ) → State F place n t P q₀ e₀ q₁ e₁ b₀ b₁ → Solved P q₁ e₁ b₁
  solved_second P q₀ e₀ q₁ e₁ b₀ b₁ s = record {
    top = s.pair₁.top;
    bottom = s.pair₁.bottom;
    meets = s.pair₁.meets;
    alive = λ j l no zq ze. s.independent j l no (ap₂ (λ r u. add (mul (q₀ j) u) (mul r (e₀ j))) zq ze ∙ vanish j);
  }
    where
      vanish : (j : ℕ) → add (mul (q₀ j) 𝟎) (mul 𝟎 (e₀ j)) ≡ 𝟎
      vanish j = by_ring F.ring (e₀ j ∷ q₀ j ∷ []) (λ a b. (b ⊗ 𝟘 ⊕ 𝟘 ⊗ a, 𝟘)) tt
