pub mod Model
pub mod Walks
pub mod Faults
pub mod Checked
pub mod Builtin
