pub mod Standing
pub mod Lines
pub mod Asked
pub mod Keeping
pub mod Walking
pub mod Taking
pub mod Stepping
pub mod DoingTurns
pub mod DoingLines
pub mod ReadScripts
mod Examples
