-- A payload is gathered from the bits of a message, and its spare bits are looked through. Assumes nothing.
use Rattle.std.proofs.Common.{◌≡◌, ℕ, zero, suc, ◌+◌, ◌-◌, Bool, false, eqb, Some, None, ◌*◌, ◌<◌, ◌≤◌, List, [], ◌∷◌, length, get_or, drop, sym, ap, ◌∙◌, ap₂, arith}
use Rattle.std.specs.List.{AllByRecursion}
use Rattle.std.proofs.ByRecursion.{All-from_get_or, All-get_or}
use Rattle.std.specs.List.{position, position_or_len}
use Rattle.std.proofs.lemmas.Grind.{common_steps}
use Rattle.std.proofs.lemmas.List.Quantifiers.{position-Some}
use Rattle.std.proofs.lemmas.List.Sums.{fails_before_first}
use Rattle.std.proofs.lemmas.Bool.{eqb-true, eqb-false}
use Rattle.std.proofs.lemmas.List.{get_or-drop, length-drop, drop-drop, nil_from_length}
use Rattle.memory_laws.specs.Payload.{byte_at, bytes_of, page_bytes, FirstSpare, SpareClear}

pub bytes_from : (n : ℕ) (bytes bits : List ℕ) → length bytes ≡ n → ((k : ℕ) → k < n → get_or bytes k 0 ≡ byte_at (drop (8 * k) bits)) → bytes ≡ bytes_of n bits
bytes_from zero bytes bits long each = nil_from_length bytes long
bytes_from (suc n) [] bits long each = absurd (omega arith)
bytes_from (suc n) (b ∷ bytes) bits long each =
    ap₂ (λ x xs. x ∷ xs) (each 0 (omega arith))
    (bytes_from n bytes (drop 8 bits) (omega arith) (λ k l. each (suc k) (omega arith) ∙ ap byte_at (ap (λ x. drop x bits) (next k) ∙ sym (drop-drop (8 * k) 8 bits))))
  where
    next : (k : ℕ) → 8 * suc k ≡ 8 + 8 * k
    next k = omega arith

spare_from : (message : List ℕ) → ((i : ℕ) → 8 * page_bytes (length message) ≤ i → i < length message → get_or message i 0 ≡ 0) → SpareClear (length message) message
spare_from message clear =
    let used = 8 * page_bytes (length message) in
    All-from_get_or (λ b. b ≡ 0) (drop used message) 0
    (λ i l. get_or-drop used message i 0 ∙ clear (used + i) (omega arith) (omega (arith, length-drop used message)))

abbrev is_one : ℕ → Bool
is_one b = eqb b 1

not_one : (message : List ℕ) (used k : ℕ) → AllByRecursion (λ b. b < 2) message → used ≤ k → k < length message → is_one (get_or (drop used message) (k - used) 0) ≡ false → get_or message k 0 ≡ 0
not_one message used k small from within e =
    let same : used + (k - used) ≡ k = omega arith in
    let is = get_or-drop used message (k - used) 0 ∙ ap (λ j. get_or message j 0) same in
    omega (arith, is, All-get_or (λ b. b < 2) message k 0 within small, eqb-false _ 1 e)

-- the first spare bit that is set
pub spare_set : (message : List ℕ) (i : ℕ) → AllByRecursion (λ b. b < 2) message → position is_one (drop (8 * page_bytes (length message)) message) ≡ Some i → FirstSpare (length message) message (8 * page_bytes (length message) + i)
spare_set message i small found =
    let used = 8 * page_bytes (length message) in
    let one = position-Some is_one (drop used message) i 0 found in
    let long = length-drop used message in
    record {
      spare = omega arith;
      set = sym (get_or-drop used message i 0) ∙ eqb-true _ 1 one.1;
      first = λ k from to. not_one message used k small from (omega (arith, one.0)) (one.2 (k - used) (omega arith));
    }

-- and that there is none
pub spare_unset : (message : List ℕ) → AllByRecursion (λ b. b < 2) message → position is_one (drop (8 * page_bytes (length message)) message) ≡ None → SpareClear (length message) message
spare_unset message small none =
    let used = 8 * page_bytes (length message) in
    let spare = drop used message in
    let past : length spare ≤ position_or_len is_one spare = grind (arith, common_steps) in
    let long = length-drop used message in
    spare_from message (λ k from to. not_one message used k small from to (fails_before_first is_one spare (k - used) 0 (omega arith)))
