pub mod EntryLemmas
pub mod LeavesLemmas
pub mod PermutedLemmas
pub mod ReadLemmas
pub mod SortedLemmas
pub mod ValueLemmas
pub mod ViewLemmas
