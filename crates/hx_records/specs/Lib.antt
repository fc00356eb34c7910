pub mod Making
pub mod Places
pub mod Reached
pub mod Records
