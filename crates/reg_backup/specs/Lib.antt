pub mod Saved
pub mod Held
