pub mod InStep
pub mod OfParts
