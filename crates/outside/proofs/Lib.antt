pub mod CountLemmas
pub mod FrameLemmas
pub mod OverwriteLemmas
pub mod TextLemmas
pub mod UnsyncedLemmas
pub mod WorldLemmas
