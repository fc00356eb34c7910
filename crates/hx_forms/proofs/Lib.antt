pub mod Lists
pub mod Refusals
pub mod Chains
pub mod Sizes
