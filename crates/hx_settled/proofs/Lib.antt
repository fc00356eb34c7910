pub mod Moments
pub mod Hopping
pub mod Filling
pub mod Explaining
pub mod Sending
pub mod Changing
pub mod Lookups
pub mod Gathering
pub mod Steady
pub mod Settling
pub mod Goals
pub mod Summing
pub mod Placed
pub mod Single
pub mod Spending
pub mod Falling
mod Examples
