pub mod Participants
pub mod Jobs
pub mod Ledger
pub mod Layout
pub mod Batches
pub mod Queues
pub mod Indexes
