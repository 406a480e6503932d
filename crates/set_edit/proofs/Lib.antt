pub mod EditingLemmas
pub mod EditsLemmas
pub mod CommittedLemmas
pub mod LimitLemmas
pub mod FormLemmas
pub mod FormReadingLemmas
