pub mod Build
pub mod Fit
pub mod Flat
pub mod Pile
pub mod Stages
