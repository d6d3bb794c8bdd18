pub mod Against
pub mod Examples
pub mod Nearness
pub mod Sameness
pub mod Single
pub mod Working
