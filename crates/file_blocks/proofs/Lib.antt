pub mod BlockLemmas
pub mod FlagsLemmas
pub mod LeadsLemmas
pub mod MarkedLemmas
pub mod WordLemmas
