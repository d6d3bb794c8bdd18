pub mod Examples
pub mod Promises
pub mod Rule
pub mod Trials
