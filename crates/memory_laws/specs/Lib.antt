pub mod Calls
pub mod Lives
pub mod Payload
