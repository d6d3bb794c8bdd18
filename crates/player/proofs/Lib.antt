pub mod Bounds
pub mod Laws
pub mod Refusing
pub mod Steps
