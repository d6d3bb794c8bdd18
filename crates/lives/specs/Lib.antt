pub mod Promises
pub mod Runs
