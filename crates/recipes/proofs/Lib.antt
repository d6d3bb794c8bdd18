pub mod Bounds
pub mod Breaking
pub mod Filling
pub mod Least
pub mod Naming
pub mod Triangle
pub mod Uniqueness
