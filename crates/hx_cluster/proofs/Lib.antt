pub mod Newest
pub mod Shown
pub mod Absent
pub mod Allowed
pub mod Bare
pub mod Rooms
pub mod PartNumbers
