pub mod Candidates
pub mod Stage
pub mod Order
pub mod Modelled
