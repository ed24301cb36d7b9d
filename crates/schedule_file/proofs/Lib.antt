mod Order
mod EntryLemmas
