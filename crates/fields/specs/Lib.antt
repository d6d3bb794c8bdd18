pub mod Answers
pub mod Below
pub mod Examples
pub mod Extending
pub mod Recipe
