pub mod Placing
pub mod Living
pub mod Keeping
pub mod Passing
