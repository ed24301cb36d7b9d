pub mod FieldLemmas
pub mod FaultLemmas
pub mod AppliesLemmas
pub mod SetsLemmas
