pub mod PassLemmas
pub mod PlaceLemmas
pub mod ObjectLemmas
pub mod LawLemmas
pub mod ZeroLemmas
