pub mod Answers
pub mod Examples
