pub mod Worked
pub mod EachFault
pub mod Inputs
pub mod Session
