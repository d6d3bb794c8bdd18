pub mod Distances
pub mod Folds
pub mod Passes
pub mod Places
pub mod Rises
pub mod Scans
pub mod Spelling
pub mod Table
