pub mod Clearing
pub mod MarkLemmas
