pub mod DecimalLemmas
pub mod HexLemmas
pub mod LineLemmas
pub mod LawLemmas
pub mod WordLemmas
pub mod RowLemmas
