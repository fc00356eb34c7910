pub mod Kept
pub mod Slots
pub mod Index
pub mod Mirror
pub mod Tallies
pub mod Moves
