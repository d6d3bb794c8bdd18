-- A number and the bits that spell it. Assumes nothing.
pub use Rattle.words.proofs.Spelling.{length_bits, bits_small, spelled_bits, pow_more, same_bits, spelled_small, bits_spelled, get_or_bits, spelled_push, spelled_more, spelled_front, spelled_append, spelled_head, bits_none}
