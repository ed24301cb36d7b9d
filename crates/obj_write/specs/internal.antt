pub mod Sections
pub mod Strings
