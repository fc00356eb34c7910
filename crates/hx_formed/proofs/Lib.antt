pub mod Alike
pub mod Counted
pub mod Live
pub mod Placed
pub mod Read
pub mod Wanted
