pub mod Schedules
pub mod Kept
pub mod Touched
pub mod Registers
pub mod Finding
pub mod Running
pub mod Putting
