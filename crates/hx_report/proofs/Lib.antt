pub mod Placing
pub mod Became
