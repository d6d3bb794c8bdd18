pub mod Fields
pub mod Polynomials
pub mod Extensions
