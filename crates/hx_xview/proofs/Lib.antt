pub mod Orders
pub mod Spans
pub mod Looked
pub mod InOrder
