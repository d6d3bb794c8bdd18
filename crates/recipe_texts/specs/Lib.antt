pub mod Hex
pub mod Telling
