pub mod Steps
pub mod Table
pub mod Legal
pub mod Short
pub mod Shortest
