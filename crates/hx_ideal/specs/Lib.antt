pub mod IdealState
pub mod Faults
pub mod ModeKinds
