pub mod Counting
pub mod Falls
pub mod Going
pub mod Rounds
pub mod Sent
pub mod Ends
pub mod Later
pub mod Carrying
pub mod Working
pub mod Emptying
pub mod Delivering
pub mod Running
pub mod Resting
pub mod Stepping
pub mod Turning
pub mod Passing
pub mod Laws
mod Examples
