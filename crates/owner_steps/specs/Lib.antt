pub mod internal
pub mod Touched
pub mod Registers
pub mod Begun
pub mod Steps
pub mod Stepped
pub mod Laws
