pub mod Below
pub mod Lists
pub mod Places
pub mod Live
pub mod Settling
pub mod Boards
pub mod Whole
mod Examples
