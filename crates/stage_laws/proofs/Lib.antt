pub mod Columns
pub mod Examples
pub mod Forney
pub mod OneChoice
pub mod Reach
pub mod Trials
