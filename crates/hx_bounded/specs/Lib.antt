pub mod Ending
pub mod Measure
pub mod Falling
pub mod Rounds
