pub mod Sound
pub mod FromRefusal
pub mod Decoding
