pub mod Moments
pub mod Hops
pub mod Nothing
pub mod Standing
pub mod Resets
pub mod Places
pub mod Ways
