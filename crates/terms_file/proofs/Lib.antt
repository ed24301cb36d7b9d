pub mod Pushing
pub mod Registers
pub mod ReadingBack
