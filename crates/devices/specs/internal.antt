pub mod Bus
pub mod Parts
pub mod Time
