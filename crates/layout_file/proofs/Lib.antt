pub mod RowLemmas
pub mod ClashLemmas
pub mod SoundLemmas
