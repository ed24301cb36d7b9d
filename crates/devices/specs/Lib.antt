pub mod Devices
pub mod Time
pub mod Parts
pub mod Bus
pub mod internal
