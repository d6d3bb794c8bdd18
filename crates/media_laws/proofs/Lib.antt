pub mod Bits
pub mod Examples
pub mod Fills
pub mod Grids
pub mod Lent
pub mod Packs
pub mod Pages
pub mod Single
