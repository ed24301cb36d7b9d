pub mod Jobs
pub mod Sections
