pub mod PageLemmas
pub mod TableLemmas
pub mod CopyLemmas
pub mod LoopLemmas
pub mod StoreLemmas
pub mod ShareLemmas
pub mod ViewLemmas
pub mod NewLemmas
