pub mod Vacancy
pub mod Entries
pub mod Linked
pub mod Reading
pub mod Walking
