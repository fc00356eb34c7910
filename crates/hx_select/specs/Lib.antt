pub mod Selection
pub mod Fillings
pub mod PartFillings
