pub mod Grid
pub mod Lent
pub mod Model
pub mod Packed
