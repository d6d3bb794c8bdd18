pub mod Making
pub mod Finding
pub mod Passes
pub mod Examples
