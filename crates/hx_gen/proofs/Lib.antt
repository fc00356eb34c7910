pub mod Ways
pub mod Ranks
pub mod Modelled
pub mod Moving
pub mod ByPart
pub mod Settling
