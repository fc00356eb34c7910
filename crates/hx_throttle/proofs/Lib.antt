pub mod Finding
pub mod Counting
pub mod Walk
pub mod Cells
pub mod Rows
