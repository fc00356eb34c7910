pub mod Brought
pub mod BroughtByTurns
pub mod BroughtByLines
pub mod Counted
pub mod Examples
