pub mod Lines
pub mod Modules
pub mod Parts
pub mod Map
pub mod internal
