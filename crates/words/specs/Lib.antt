pub mod Bits
pub mod Buffers
pub mod Distance
pub mod Faults
pub mod Harm
pub mod Soundness
pub mod Texts
