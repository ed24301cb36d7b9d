pub mod TableLemmas
pub mod FirstLemmas
pub mod Found
