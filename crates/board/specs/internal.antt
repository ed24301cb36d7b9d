pub mod Ran
pub mod Sound
pub mod Standing
pub mod Turned
