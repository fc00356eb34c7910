pub mod Bare
pub mod Built
pub mod Calls
mod Examples
pub mod Judged
pub mod LogsValid
pub mod Marking
pub mod Nexts
pub mod Padded
pub mod Pairs
pub mod Replaying
pub mod Same
pub mod Standings
pub mod Streaming
pub mod Tellable
pub mod Telling
pub mod Told
pub mod Turning
