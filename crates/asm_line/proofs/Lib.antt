pub mod WordLemmas
pub mod WrittenLemmas
pub mod JumpLemmas
pub mod MeaningLemmas
pub mod DecodedLemmas
pub mod ShownLemmas
