pub mod Throttle
pub mod Index
pub mod Loads
pub mod Table
