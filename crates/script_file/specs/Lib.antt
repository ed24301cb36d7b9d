pub mod Bounds
pub mod Line
pub mod Laws
pub mod Reading
pub mod internal
