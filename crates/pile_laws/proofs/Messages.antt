-- A pile's message and those of its stages. Assumes nothing.
use Rattle.std.proofs.Common.{◌≡◌, ℕ, zero, suc, ◌+◌, ◌-◌, ◌*◌, ◌^◌, ◌<◌, ◌≤◌, List, [], ◌∷◌, ◌++◌, length, get_or, take, drop, sym, refl, ap, ◌∙◌, subst, ap₂, mul-le-mul_right, mod-eq_of_lt, suc-mul, arith}
use Rattle.std.specs.List.{AllByRecursion}
use Rattle.std.proofs.ByRecursion.{All-append, All-take, All-drop}
use Rattle.std.proofs.lemmas.List.{append_assoc, ext_get_or, length-append, length-drop, length-take-le, take-append-drop, drop-drop, drop-take, take_at, take-take, drop_at}
use Rattle.chains.specs.Bits.{bits_of, spelled}
use Rattle.chains.specs.Spelling.{length_bits, bits_small, spelled_bits, spelled_small, bits_spelled}
use Rattle.codes.specs.Model.{CodeModel, Message}
use Rattle.pile_laws.specs.Build.{symbols, spelled_out, stage_bits, stage_messages, joined_bits, total_bits}

pub length_symbols : (m k : ℕ) (bits : List ℕ) → length (symbols m k bits) ≡ k
length_symbols m zero bits = refl
length_symbols m (suc k) bits = ap suc (length_symbols m k (drop m bits))

pub length_spelled_out : (m : ℕ) (us : List ℕ) → length (spelled_out m us) ≡ length us * m
length_spelled_out m [] = omega arith
length_spelled_out m (x ∷ us) =
    length-append (bits_of m x) (spelled_out m us) ∙ omega (arith, length_bits m x, length_spelled_out m us, suc-mul (length us) m)

pub small_spelled_out : (m : ℕ) (us : List ℕ) → AllByRecursion (λ b. b < 2) (spelled_out m us)
small_spelled_out m [] = tt
small_spelled_out m (x ∷ us) = All-append (λ b. b < 2) (bits_of m x) (spelled_out m us) (bits_small m x) (small_spelled_out m us)

module _ (m : ℕ) where
  pub symbol_at : (k i : ℕ) (bits : List ℕ) → i < k → get_or (symbols m k bits) i 0 ≡ spelled (take m (drop (i * m) bits))
  symbol_at zero i bits l = absurd (omega arith)
  symbol_at (suc k) zero bits l = let none : 0 ≡ 0 * m = omega arith in ap (λ (n : ℕ). spelled (take m (drop n bits))) none
  symbol_at (suc k) (suc i) bits l =
      let more : m + i * m ≡ suc i * m = omega (arith, suc-mul i m) in
      symbol_at k i (drop m bits) (omega arith)
      ∙ ap (λ x. spelled (take m x)) (drop-drop (i * m) m bits ∙ ap (λ (n : ℕ). drop n bits) more)

  -- symbols that were read one by one
  pub symbols_read : (bits xs : List ℕ) → ((i : ℕ) → i < length xs → get_or xs i 0 ≡ spelled (take m (drop (i * m) bits))) → xs ≡ symbols m (length xs) bits
  symbols_read bits xs each =
      ext_get_or 0 xs (symbols m (length xs) bits) (sym (length_symbols m (length xs) bits)) (λ i l. each i l ∙ sym (symbol_at (length xs) i bits l))

  -- only so many bits are looked at
  pub symbols_front : (k n : ℕ) (bits : List ℕ) → k * m ≤ n → symbols m k (take n bits) ≡ symbols m k bits
  symbols_front zero n bits l = refl
  symbols_front (suc k) n bits l =
      let room : m + k * m ≤ n = omega (arith, suc-mul k m) in
      let split : m + (n - m) ≡ n = omega arith in
      let rest : drop m (take n bits) ≡ take (n - m) (drop m bits) = ap (λ (j : ℕ). drop m (take j bits)) (sym split) ∙ drop-take m (n - m) bits in
      ap₂ (λ x y. spelled x ∷ symbols m k y) (take-take m n bits (omega arith)) rest
      ∙ ap (λ xs. spelled (take m bits) ∷ xs) (symbols_front k (n - m) (drop m bits) (omega arith))

  pub small_symbols : (k : ℕ) (bits : List ℕ) → k * m ≤ length bits → AllByRecursion (λ b. b < 2) bits → AllByRecursion (λ x. x < 2 ^ m) (symbols m k bits)
  small_symbols zero bits l a = tt
  small_symbols (suc k) bits l a =
      let room : m + k * m ≤ length bits = omega (arith, suc-mul k m) in
      let long : length (take m bits) ≡ m = length-take-le m bits (omega arith) in
      (subst (λ (n : ℕ). spelled (take m bits) < 2 ^ n) long (spelled_small (take m bits) (All-take (λ b. b < 2) m bits a)), small_symbols k (drop m bits) (omega (arith, length-drop m bits)) (All-drop (λ b. b < 2) m bits a))

  -- bits are those of the symbols that they spell
  pub spelled_symbols : (k : ℕ) (bits : List ℕ) → k * m ≤ length bits → AllByRecursion (λ b. b < 2) bits → spelled_out m (symbols m k bits) ++ drop (k * m) bits ≡ bits
  spelled_symbols zero bits l a = let none : 0 * m ≡ 0 = omega arith in ap (λ (n : ℕ). drop n bits) none
  spelled_symbols (suc k) bits l a =
      let room : m + k * m ≤ length bits = omega (arith, suc-mul k m) in
      let long : length (take m bits) ≡ m = length-take-le m bits (omega arith) in
      let first : bits_of m (spelled (take m bits)) ≡ take m bits = ap (λ n. bits_of n (spelled (take m bits))) (sym long) ∙ bits_spelled (take m bits) (All-take (λ b. b < 2) m bits a) in
      let rest = spelled_symbols k (drop m bits) (omega (arith, length-drop m bits)) (All-drop (λ b. b < 2) m bits a) in
      let more : suc k * m ≡ m + k * m = omega (arith, suc-mul k m) in
      let past : drop (suc k * m) bits ≡ drop (k * m) (drop m bits) = ap (λ (n : ℕ). drop n bits) more ∙ sym (drop-drop (k * m) m bits) in
      append_assoc (bits_of m (spelled (take m bits))) (spelled_out m (symbols m k (drop m bits))) _
      ∙ ap₂ (λ x y. x ++ (spelled_out m (symbols m k (drop m bits)) ++ y)) first past
      ∙ ap (λ x. take m bits ++ x) rest
      ∙ take-append-drop m bits

  -- and symbols are those that their bits spell
  pub symbols_spelled : (us rest : List ℕ) → AllByRecursion (λ x. x < 2 ^ m) us → symbols m (length us) (spelled_out m us ++ rest) ≡ us
  symbols_spelled [] rest a = refl
  symbols_spelled (x ∷ us) rest a =
      let apart = append_assoc (bits_of m x) (spelled_out m us) rest in
      let front = take_at (bits_of m x) (spelled_out m us ++ rest) m (length_bits m x) in
      let back = drop_at (bits_of m x) (spelled_out m us ++ rest) m (length_bits m x) in
      ap (symbols m (suc (length us))) apart
      ∙ ap₂ (λ y z. spelled y ∷ symbols m (length us) z) front back
      ∙ ap₂ ◌∷◌ (spelled_bits m x ∙ mod-eq_of_lt a.0) (symbols_spelled us rest a.1)

-- one message for each code
abbrev pub EachMessage : List CodeModel → List (List ℕ) → Type 0
EachMessage [] [] = Unit {0}
EachMessage [] (u ∷ us) = ⊥
EachMessage (c ∷ cs) [] = ⊥
EachMessage (c ∷ cs) (u ∷ us) = Message c u × EachMessage cs us

pub stage_messages_are : (cs : List CodeModel) (bits : List ℕ) → total_bits cs ≤ length bits → AllByRecursion (λ b. b < 2) bits → EachMessage cs (stage_messages cs bits)
stage_messages_are [] bits l a = tt
stage_messages_are (c ∷ cs) bits l a =
    ((length_symbols c.width c.message_len bits, small_symbols c.width c.message_len bits (omega arith) a), stage_messages_are cs (drop (stage_bits c) bits) (omega (arith, length-drop (stage_bits c) bits)) (All-drop (λ b. b < 2) (stage_bits c) bits a))

pub bits_again : (cs : List CodeModel) (bits : List ℕ) → length bits ≡ total_bits cs → AllByRecursion (λ b. b < 2) bits → joined_bits cs (stage_messages cs bits) ≡ bits
bits_again [] [] l a = refl
bits_again [] (b ∷ bits) l a = absurd (omega arith)
bits_again (c ∷ cs) bits l a =
    let rest = bits_again cs (drop (stage_bits c) bits) (length-drop (stage_bits c) bits ∙ omega arith) (All-drop (λ b. b < 2) (stage_bits c) bits a) in
    ap (λ x. spelled_out c.width (symbols c.width c.message_len bits) ++ x) rest
    ∙ spelled_symbols c.width c.message_len bits (omega arith) a

pub joined_bits_are : (cs : List CodeModel) (us : List (List ℕ)) → EachMessage cs us → (length (joined_bits cs us) ≡ total_bits cs) × AllByRecursion (λ b. b < 2) (joined_bits cs us)
joined_bits_are [] [] e = (refl, tt)
joined_bits_are [] (u ∷ us) e = absurd e
joined_bits_are (c ∷ cs) [] e = absurd e
joined_bits_are (c ∷ cs) (u ∷ us) e =
    let rest = joined_bits_are cs us e.1 in
    (length-append (spelled_out c.width u) (joined_bits cs us) ∙ ap₂ ◌+◌ (length_spelled_out c.width u ∙ ap (λ (k : ℕ). k * c.width) e.0.0) rest.0, All-append (λ b. b < 2) (spelled_out c.width u) (joined_bits cs us) (small_spelled_out c.width u) rest.1)

pub messages_again : (cs : List CodeModel) (us : List (List ℕ)) → EachMessage cs us → stage_messages cs (joined_bits cs us) ≡ us
messages_again [] [] e = refl
messages_again [] (u ∷ us) e = absurd e
messages_again (c ∷ cs) [] e = absurd e
messages_again (c ∷ cs) (u ∷ us) e =
    let m = c.width in
    let first : symbols m c.message_len (spelled_out m u ++ joined_bits cs us) ≡ u = ap (λ (k : ℕ). symbols m k (spelled_out m u ++ joined_bits cs us)) (sym e.0.0) ∙ symbols_spelled m u (joined_bits cs us) e.0.1 in
    let long : length (spelled_out m u) ≡ stage_bits c = length_spelled_out m u ∙ ap (λ (k : ℕ). k * m) e.0.0 in
    let rest : drop (stage_bits c) (spelled_out m u ++ joined_bits cs us) ≡ joined_bits cs us = drop_at (spelled_out m u) (joined_bits cs us) (stage_bits c) long in
    ap₂ ◌∷◌ first (ap (stage_messages cs) rest ∙ messages_again cs us e.1)

-- the bits of one symbol among many
pub symbol_room : (m k i : ℕ) → i < k → i * m + m ≤ k * m
symbol_room m k i l = omega (arith, suc-mul i m, mul-le-mul_right {m = suc i} {n = k} m l)
