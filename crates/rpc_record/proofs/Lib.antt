mod AskedLemmas
pub mod ConnectionLemmas
pub mod HearingLemmas
mod RunLemmas
pub mod ServingLemmas
