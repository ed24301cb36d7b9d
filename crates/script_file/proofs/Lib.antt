pub mod Loop
pub mod LineLemmas
