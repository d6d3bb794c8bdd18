pub mod Answering
pub mod Joined
