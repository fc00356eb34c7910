pub mod Growing
pub mod Free
pub mod Copies
pub mod Histories
pub mod Reaching
pub mod Told
