pub mod Counts
pub mod Naming
