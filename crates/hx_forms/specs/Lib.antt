pub mod Found
pub mod Reading
pub mod Members
pub mod ModelForm
pub mod Tables
