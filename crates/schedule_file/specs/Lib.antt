pub mod Entries
pub mod Line
pub mod Reading
pub mod Laws
