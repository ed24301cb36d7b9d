pub mod Turns
pub mod Padding
