pub mod AskedLemmas
pub mod CommandLemmas
pub mod CommittedLemmas
pub mod LookLemmas
pub mod SoundLemmas
