pub mod Follows
pub mod Thrifty
pub mod Sound
