pub mod Chains
pub mod Codes
pub mod Meaning
pub mod Rules
pub mod Stages
pub mod Totals
