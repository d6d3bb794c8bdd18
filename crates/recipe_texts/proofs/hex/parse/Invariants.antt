use Rattle.std.proofs.Common.{◌≡◌, drop, None, vec_items}
use Rattle.recipe_texts.specs.Hex.{hex_bytes, with_front, Waits}
use Rattle.recipe_texts.proofs.hex.parse.Given as goal

-- the bytes so far stand before those of what is left
abbrev pub invariant-loop-b : goal.invariant-loop-b
invariant-loop-b l = Waits l.high × (hex_bytes l.text None ≡ with_front (vec_items l.bytes) (hex_bytes (drop l.b-index l.text) l.high))
