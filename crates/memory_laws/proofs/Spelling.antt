-- A message is spelled byte by byte. Assumes nothing.
use Rattle.std.proofs.Common.{◌≡◌, ℕ, ◌+◌, ◌-◌, ◌*◌, ◌/◌, ◌%◌, ◌<◌, ◌≤◌, List, [], ◌∷◌, ◌++◌, length, get_or, take, drop, replicate, sym, refl, ap, ◌∙◌, ap₂, append_assoc, arith}
use borrow.Rule.Slice.PartMut.{put_mid}
use Rattle.std.proofs.lemmas.List.{append-nil, take_more, take_at, drop_at, drop-replicate, length-take-le}
use Rattle.words.specs.Bits as words
use Rattle.memory_laws.specs.Payload.{bits_of_byte, bits_of, carrying}
use Rattle.memory_laws.proofs.Payloads.{length_bits}

-- the bits of a byte are its lowest eight
pub bits_byte : (b : ℕ) → words.bits_of 8 b ≡ bits_of_byte b
bits_byte b =
    let last : b / 1 ≡ b = omega arith in
    ap (λ x. b / 128 % 2 ∷ b / 64 % 2 ∷ b / 32 % 2 ∷ b / 16 % 2 ∷ b / 8 % 2 ∷ b / 4 % 2 ∷ b / 2 % 2 ∷ x % 2 ∷ []) last

bits_append : (xs ys : List ℕ) → bits_of (xs ++ ys) ≡ bits_of xs ++ bits_of ys
bits_append [] ys = refl
bits_append (x ∷ xs) ys = ap (λ rest. bits_of_byte x ++ rest) (bits_append xs ys) ∙ sym (append_assoc (bits_of_byte x) (bits_of xs) (bits_of ys))

bits_more : (payload : List ℕ) (i : ℕ) → i < length payload → bits_of (take (i + 1) payload) ≡ bits_of (take i payload) ++ bits_of_byte (get_or payload i 0)
bits_more payload i l =
    ap bits_of (take_more payload i 0 l) ∙ bits_append (take i payload) (get_or payload i 0 ∷ []) ∙ ap (λ last. bits_of (take i payload) ++ last) (append-nil (bits_of_byte (get_or payload i 0)))

-- one more byte in the place of eight zeros
pub carrying_more : (k : ℕ) (payload : List ℕ) (i : ℕ) → i < length payload → 8 * length payload ≤ k → put_mid (8 * i) 8 (carrying k (take i payload)) (bits_of_byte (get_or payload i 0)) ≡ carrying k (take (i + 1) payload)
carrying_more k payload i l fits =
    let A = bits_of (take i payload) in
    let B = bits_of_byte (get_or payload i 0) in
    let n = k - 8 * length (take i payload) in
    let zeros = replicate {A = ℕ} n 0 in
    let so_far = length-take-le i payload (omega arith) in
    let one_more = length-take-le (i + 1) payload (omega arith) in
    let long : length A ≡ 8 * i = length_bits (take i payload) ∙ ap (λ x. 8 * x) so_far in
    let left : n - 8 ≡ k - 8 * length (take (i + 1) payload) = omega (arith, so_far, one_more) in
    let rest : drop 8 (drop (8 * i) (A ++ zeros)) ≡ replicate (k - 8 * length (take (i + 1) payload)) 0 = ap (drop 8) (drop_at A zeros (8 * i) long) ∙ drop-replicate 8 n 0 ∙ ap (λ x. replicate x 0) left in
    ap₂ (λ front back. front ++ (B ++ back)) (take_at A zeros (8 * i) long) rest
    ∙ sym (append_assoc A B (replicate (k - 8 * length (take (i + 1) payload)) 0))
    ∙ ap (λ front. front ++ replicate (k - 8 * length (take (i + 1) payload)) 0) (sym (bits_more payload i l))
