pub mod KeepsTurns
pub mod Proposed
pub mod Numbers
pub mod Given
pub mod Sending
pub mod Keeping
mod Staged
pub mod Left
mod Making
mod Going
mod Ending
mod Few
mod Wanted
