pub mod GatherLemmas
pub mod LinesLemmas
pub mod LookingLemmas
pub mod PageLemmas
