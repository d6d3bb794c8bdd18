pub mod Named
pub mod Numbers
