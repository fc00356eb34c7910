pub mod Fitting
pub mod Unrefused
pub mod Holding
pub mod Reading
pub mod Covers
pub mod Gate
