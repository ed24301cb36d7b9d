pub mod internal
pub mod Ran
pub mod Shown
pub mod Alike
pub mod Faults
pub mod Watched
