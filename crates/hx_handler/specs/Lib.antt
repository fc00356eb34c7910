pub mod Makings
pub mod Failures
pub mod Told
pub mod Scripted
