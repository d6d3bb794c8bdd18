-- A bit of some bytes takes a value, and the others stay. Assumes nothing.
use Rattle.std.proofs.Common.{◌≡◌, ℕ, ◌+◌, ◌-◌, ◌*◌, ◌/◌, ◌%◌, ◌^◌, ◌<◌, Bool, true, false, cond, eqb, List, length, get_or, set, replicate, sym, refl, ap, ◌∙◌, ap₂, ⊎_elim, arith}
use lib.Bits.{bit_and, bit_or}
use Rattle.std.specs.List.{AllByRecursion}
use Rattle.std.proofs.ByRecursion.{All-get_or}
use Rattle.std.proofs.lemmas.List.{length-set, get_or-set_same, get_or-set_other, ext_get_or}
use Rattle.std.proofs.lemmas.Bool.{cases_eq, eq-eqb, ne_eqb, eqb-true}
use Rattle.std.proofs.lemmas.Bool.Decides.{nat_tests}
use Rattle.words.proofs.Table.{passes_all, entry_passes}
use Rattle.media_laws.specs.Packed.{bit_of, BitSet}

-- a byte whose bit of a weight is set or cleared
abbrev pub with_bit : ℕ → ℕ → Bool → ℕ
with_bit b w t = cond t (bit_or b w) (bit_and b (255 - w))

abbrev right : Bool → ℕ → ℕ → ℕ → Bool
right t b j i = eqb (with_bit b (2 ^ (7 - j)) t / 2 ^ (7 - i) % 2) (cond (eqb i j) (cond t 1 0) (b / 2 ^ (7 - i) % 2))

abbrev right_bits : Bool → ℕ → ℕ → ℕ → Bool
right_bits t b j _ = passes_all (λ i _. right t b j i) 0 (replicate {A = ℕ} 8 0)

abbrev right_byte : Bool → ℕ → ℕ → Bool
right_byte t b _ = passes_all (right_bits t b) 0 (replicate {A = ℕ} 8 0)

-- a test over all bytes and places, which antt computes
all_right : (t : Bool) → passes_all (right_byte t) 0 (replicate {A = ℕ} 256 0) ≡ true
all_right true = refl
all_right false = refl

byte_bit : (t : Bool) (b j i : ℕ) → b < 256 → j < 8 → i < 8 → with_bit b (2 ^ (7 - j)) t / 2 ^ (7 - i) % 2 ≡ cond (eqb i j) (cond t 1 0) (b / 2 ^ (7 - i) % 2)
byte_bit t b j i lb lj li =
    let of-byte = entry_passes (right_byte t) (replicate 256 0) (all_right t) b 0 lb in
    let of-place = entry_passes (right_bits t b) (replicate 8 0) of-byte j 0 lj in
    eqb-true _ _ (entry_passes (λ k (_ : ℕ). right t b j k) (replicate 8 0) of-place i 0 li)

value_of_test : (v : ℕ) → v < 2 → cond (eqb v 1) 1 0 ≡ v
value_of_test v l = grind (arith, nat_tests)

module _ (bytes : List ℕ) (k v new : ℕ) (within : k < 8 * length bytes) (small : v < 2) (byte : get_or bytes (k / 8) 0 < 256) (is : new ≡ with_bit (get_or bytes (k / 8) 0) (2 ^ (7 - k % 8)) (eqb v 1)) where
  new_bit : (i : ℕ) → i < 8 → new / 2 ^ (7 - i) % 2 ≡ cond (eqb i (k % 8)) (cond (eqb v 1) 1 0) (get_or bytes (k / 8) 0 / 2 ^ (7 - i) % 2)
  new_bit i l = ap (λ b. b / 2 ^ (7 - i) % 2) is ∙ byte_bit (eqb v 1) (get_or bytes (k / 8) 0) (k % 8) i byte (omega arith) l

  stands : get_or (set bytes (k / 8) new) (k / 8) 0 ≡ new
  stands = get_or-set_same bytes (k / 8) new 0 (omega arith)

  here : bit_of (set bytes (k / 8) new) k ≡ v
  here =
      ap (λ b. b / 2 ^ (7 - k % 8) % 2) stands
      ∙ new_bit (k % 8) (omega arith)
      ∙ ap (λ t. cond t (cond (eqb v 1) 1 0) (bit_of bytes k)) (eq-eqb (k % 8) (k % 8) refl)
      ∙ value_of_test v small

  elsewhere : (j : ℕ) → (j ≡ k → ⊥) → bit_of (set bytes (k / 8) new) j ≡ bit_of bytes j
  elsewhere j ne = ⊎_elim same other (cases_eq (j / 8) (k / 8))
    where
      same : j / 8 ≡ k / 8 → bit_of (set bytes (k / 8) new) j ≡ bit_of bytes j
      same e =
          let apart : (j % 8 ≡ k % 8 → ⊥) = λ f. ne (omega arith) in
          ap (λ q. get_or (set bytes (k / 8) new) q 0 / 2 ^ (7 - j % 8) % 2) e
          ∙ ap (λ b. b / 2 ^ (7 - j % 8) % 2) stands
          ∙ new_bit (j % 8) (omega arith)
          ∙ ap (λ t. cond t (cond (eqb v 1) 1 0) (get_or bytes (k / 8) 0 / 2 ^ (7 - j % 8) % 2)) (ne_eqb (j % 8) (k % 8) apart)
          ∙ ap (λ q. get_or bytes q 0 / 2 ^ (7 - j % 8) % 2) (sym e)

      other : (j / 8 ≡ k / 8 → ⊥) → bit_of (set bytes (k / 8) new) j ≡ bit_of bytes j
      other apart = ap (λ b. b / 2 ^ (7 - j % 8) % 2) (get_or-set_other bytes (k / 8) (j / 8) new 0 apart)

  pub bit_set : BitSet bytes (set bytes (k / 8) new) k v
  bit_set = record { long = length-set bytes (k / 8) new; here = here; elsewhere = elsewhere }

-- a byte from its bits
abbrev spelt : (ℕ → ℕ) → ℕ
spelt f = 128 * f 0 + 64 * f 1 + 32 * f 2 + 16 * f 3 + 8 * f 4 + 4 * f 5 + 2 * f 6 + f 7

same_spelt : (f g : ℕ → ℕ) → ((j : ℕ) → j < 8 → f j ≡ g j) → spelt f ≡ spelt g
same_spelt f g e =
    omega (
      arith,
      e 0 (omega arith),
      e 1 (omega arith),
      e 2 (omega arith),
      e 3 (omega arith),
      e 4 (omega arith),
      e 5 (omega arith),
      e 6 (omega arith),
      e 7 (omega arith),
    )

abbrev spells : ℕ → ℕ → Bool
spells b _ = eqb (spelt (λ j. b / 2 ^ (7 - j) % 2)) b

byte_spelt : (b : ℕ) → b < 256 → spelt (λ j. b / 2 ^ (7 - j) % 2) ≡ b
byte_spelt b l = eqb-true _ _ (entry_passes spells (replicate {A = ℕ} 256 0) refl b 0 l)

-- bytes are given by their bits
pub same_bytes : (b b' : List ℕ) → length b' ≡ length b → AllByRecursion (λ x. x < 256) b → AllByRecursion (λ x. x < 256) b' → ((k : ℕ) → bit_of b' k ≡ bit_of b k) → b' ≡ b
same_bytes b b' long small small' same =
    ext_get_or 0 b' b long
    (λ i l.
    sym (byte_spelt (get_or b' i 0) (All-get_or (λ x. x < 256) b' i 0 l small'))
    ∙ same_spelt (λ j. get_or b' i 0 / 2 ^ (7 - j) % 2) (λ j. get_or b i 0 / 2 ^ (7 - j) % 2) (λ j lj. sym (at b' i j lj) ∙ same (8 * i + j) ∙ at b i j lj)
    ∙ byte_spelt (get_or b i 0) (All-get_or (λ x. x < 256) b i 0 (omega arith) small))
  where
    at : (xs : List ℕ) (i j : ℕ) → j < 8 → bit_of xs (8 * i + j) ≡ get_or xs i 0 / 2 ^ (7 - j) % 2
    at xs i j l =
        let quotient : (8 * i + j) / 8 ≡ i = omega arith in
        let rest : (8 * i + j) % 8 ≡ j = omega arith in
        ap₂ (λ q r. get_or xs q 0 / 2 ^ (7 - r) % 2) quotient rest
