pub mod Chains
pub mod Codes
pub mod Piles
