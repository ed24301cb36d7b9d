pub mod Accepted
pub mod Sound
pub mod Examples
pub mod Interrupted
pub mod Returning
