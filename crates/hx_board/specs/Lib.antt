pub mod Board
pub mod Refusals
