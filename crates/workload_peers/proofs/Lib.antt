pub mod Images
pub mod Verdict
