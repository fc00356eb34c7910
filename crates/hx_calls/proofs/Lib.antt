pub mod Placing
pub mod Alike
pub mod Front
