pub mod FrontLemmas
pub mod MarkedLemmas
pub mod MarkerLemmas
