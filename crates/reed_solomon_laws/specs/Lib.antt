pub mod KeyEquation
pub mod Words
