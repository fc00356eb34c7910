pub mod Controllers
pub mod Steps
pub mod OfBoard
pub mod Turning
pub mod Drafted
pub mod Faults
pub mod Made
