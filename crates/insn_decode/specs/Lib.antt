pub mod Code
pub mod Means
pub mod Text
