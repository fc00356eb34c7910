mod Asides
mod Ending
pub mod Gated
mod Held
mod Insides
pub mod Marked
pub mod Placing
pub mod Reaching
pub mod Seating
mod Sitting
mod Stepping
