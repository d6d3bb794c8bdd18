pub mod Outcomes
pub mod Examples
pub mod Making
pub mod Values
