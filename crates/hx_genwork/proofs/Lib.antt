pub mod Worked
pub mod Printing
