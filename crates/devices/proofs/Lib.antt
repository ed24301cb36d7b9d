mod Still
mod Timing
mod FourBits
mod Order
pub mod Acting
mod Waiting
pub mod Passing
