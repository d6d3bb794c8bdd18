pub mod Once
pub mod Together
