pub mod AnsweringLemmas
pub mod SoundLemmas
pub mod WordLemmas
