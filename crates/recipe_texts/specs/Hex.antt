-- Bytes written as hexadecimal text, two digits to a byte. Assumes nothing.
use Rattle.std.specs.Prelude.{◌≡◌, ℕ, ◌+◌, ◌-◌, ◌*◌, ◌<◌, cond, ◌&&◌, List, [], ◌∷◌, ◌++◌, Some, None, Option, ◌==◌, nat_le}

-- the value of one digit, 0 to 9, a to f or A to F
abbrev pub nibble : ℕ → Option ℕ
nibble c =
    cond (nat_le 48 c && nat_le c 57) (Some (c - 48))
    (cond (nat_le 97 c && nat_le c 102) (Some (c - 97 + 10))
    (cond (nat_le 65 c && nat_le c 70) (Some (c - 65 + 10)) None))

abbrev pub prefixed : ℕ → Option (List ℕ) → Option (List ℕ)
prefixed b None = None
prefixed b (Some bs) = Some (b ∷ bs)

-- what a digit does: it is the first of a byte, or the second of one; `rest` reads what follows
abbrev pub with_digit : Option ℕ → Option ℕ → (Option ℕ → Option (List ℕ)) → Option (List ℕ)
with_digit high None rest = None
with_digit None (Some d) rest = rest (Some d)
with_digit (Some h) (Some d) rest = prefixed (16 * h + d) (rest None)

-- the bytes that a text writes; `high` is the first digit of a byte whose second is still to come
abbrev pub hex_bytes : List ℕ → Option ℕ → Option (List ℕ)
hex_bytes [] None = Some []
hex_bytes [] (Some h) = None
hex_bytes (c ∷ cs) high = cond (c == 32) (hex_bytes cs high) (with_digit high (nibble c) (hex_bytes cs))

abbrev pub with_front : List ℕ → Option (List ℕ) → Option (List ℕ)
with_front front None = None
with_front front (Some bs) = Some (front ++ bs)

-- the digit that waits, if one does, is one
abbrev pub Waits : Option ℕ → Type 0
Waits None = Unit {0}
Waits (Some h) = h < 16

-- past the character b, the bytes and the waiting digit stand for the same, whatever text follows
abbrev pub Steps : List ℕ → Option ℕ → ℕ → List ℕ → Option ℕ → Type 0
Steps before high b after next = (cs : List ℕ) → with_front before (hex_bytes (b ∷ cs) high) ≡ with_front after (hex_bytes cs next)

-- no text that goes on with the character b is hexadecimal
abbrev pub Stops : Option ℕ → ℕ → Type 0
Stops high b = (cs : List ℕ) → hex_bytes (b ∷ cs) high ≡ None
