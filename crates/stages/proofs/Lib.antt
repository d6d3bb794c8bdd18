pub mod Answered
pub mod Scans
