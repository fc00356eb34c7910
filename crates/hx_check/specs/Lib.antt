pub mod Standing
pub mod Answers
pub mod Judge
pub mod Judging
pub mod Streams
