pub mod Field
pub mod Newton
pub mod Places
pub mod Poly
pub mod Ring
pub mod Sums
