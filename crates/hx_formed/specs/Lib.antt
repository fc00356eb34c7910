pub mod Formed
pub mod Places
pub mod Reads
pub mod Sessions
pub mod Wanted
