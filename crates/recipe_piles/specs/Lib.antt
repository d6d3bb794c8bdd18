pub mod Made
pub mod Parts
