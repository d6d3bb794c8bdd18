pub mod Answers
pub mod Pages
