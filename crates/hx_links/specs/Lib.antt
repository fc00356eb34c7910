pub mod Pool
pub mod Slots
pub mod Layout
pub mod Chains
