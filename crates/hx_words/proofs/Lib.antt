pub mod Answering
pub mod Building
pub mod Chosen
pub mod Numbers
pub mod OneKind
