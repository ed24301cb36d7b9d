pub mod Clap
pub mod Given
pub mod Offering
pub mod Outcomes
pub mod Ending
pub mod Sound
