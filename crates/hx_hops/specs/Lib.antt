pub mod Hops
pub mod Table
