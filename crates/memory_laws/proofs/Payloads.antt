-- Bytes come back from the message that carries them. Assumes nothing.
use Rattle.std.proofs.Common.{◌≡◌, ℕ, zero, suc, ◌-◌, ◌*◌, ◌<◌, ◌≤◌, Bool, eqb, List, [], ◌∷◌, ◌++◌, length, replicate, sym, refl, ap, ◌∙◌, subst, ap₂, arith, eqb-true}
use Rattle.std.specs.List.{AllByRecursion}
use Rattle.std.proofs.ByRecursion.{All-append}
use Rattle.std.proofs.lemmas.List.{length-append, length-replicate, drop_at}
use Rattle.words.proofs.Table.{entry_passes}
use Rattle.memory_laws.specs.Payload.{bits_of_byte, bits_of, carrying, byte_at, bytes_of, SpareClear, page_bytes}

abbrev comes_back : ℕ → ℕ → Bool
comes_back b x = eqb (byte_at (bits_of_byte b)) b

-- a test over all bytes, which antt computes
byte_back : (b : ℕ) (rest : List ℕ) → b < 256 → byte_at (bits_of_byte b ++ rest) ≡ b
byte_back b rest l = eqb-true _ _ (entry_passes comes_back (replicate 256 0) refl b 0 l)

pub length_bits : (bytes : List ℕ) → length (bits_of bytes) ≡ 8 * length bytes
length_bits [] = refl
length_bits (b ∷ bytes) = omega (arith, length_bits bytes)

pub bytes_back : (payload rest : List ℕ) → AllByRecursion (λ b. b < 256) payload → bytes_of (length payload) (bits_of payload ++ rest) ≡ payload
bytes_back [] rest a = refl
bytes_back (b ∷ payload) rest a = ap₂ (λ x xs. x ∷ xs) (byte_back b (bits_of payload ++ rest) a.0) (bytes_back payload rest a.1)

-- what carries a payload is a message of k bits with no spare bit set, and gives the payload back
pub length_carrying : (k : ℕ) (payload : List ℕ) → 8 * length payload ≤ k → length (carrying k payload) ≡ k
length_carrying k payload h =
    length-append (bits_of payload) (replicate (k - 8 * length payload) 0) ∙ omega (arith, length_bits payload, length-replicate {A = ℕ} (k - 8 * length payload) 0)

pub all_zeros : (P : ℕ → Type 0) (n : ℕ) → P 0 → AllByRecursion P (replicate n 0)
all_zeros P zero p = tt
all_zeros P (suc n) p = (p, all_zeros P n p)

bits_small : (bytes : List ℕ) → AllByRecursion (λ b. b < 2) (bits_of bytes)
bits_small [] = tt
bits_small (b ∷ bytes) =
    All-append (λ x. x < 2) (bits_of_byte b) (bits_of bytes)
    (omega arith, (omega arith, (omega arith, (omega arith, (omega arith, (omega arith, (omega arith, (omega arith, tt))))))))
    (bits_small bytes)

pub carrying_small : (k : ℕ) (payload : List ℕ) → AllByRecursion (λ b. b < 2) (carrying k payload)
carrying_small k payload =
    All-append (λ b. b < 2) (bits_of payload) (replicate (k - 8 * length payload) 0) (bits_small payload) (all_zeros (λ b. b < 2) (k - 8 * length payload) (omega arith))

pub carrying_clear : (k : ℕ) (payload : List ℕ) → length payload ≡ page_bytes k → SpareClear k (carrying k payload)
carrying_clear k payload e =
    subst (AllByRecursion (λ b. b ≡ 0)) (sym (drop_at (bits_of payload) (replicate (k - 8 * length payload) 0) (8 * page_bytes k) (length_bits payload ∙ ap (λ n. 8 * n) e))) (all_zeros (λ b. b ≡ 0) (k - 8 * length payload) refl)

pub payload_back : (k : ℕ) (payload : List ℕ) → AllByRecursion (λ b. b < 256) payload → length payload ≡ page_bytes k → bytes_of (page_bytes k) (carrying k payload) ≡ payload
payload_back k payload a e = ap (λ n. bytes_of n (carrying k payload)) (sym e) ∙ bytes_back payload (replicate (k - 8 * length payload) 0) a
