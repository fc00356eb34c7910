pub mod Sound
pub mod Ordered
pub mod Along
pub mod Weighed
pub mod Onward
pub mod Calm
