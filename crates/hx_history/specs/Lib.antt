pub mod Columns
pub mod Told
pub mod Kept
pub mod Counted
