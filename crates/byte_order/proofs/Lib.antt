pub mod BigLemmas
pub mod SwapLemmas
pub mod TurnedLemmas
pub mod WordsLemmas
pub mod ZeroLemmas
