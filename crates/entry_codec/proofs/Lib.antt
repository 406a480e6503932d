pub mod EntryLemmas
pub mod SpellingLemmas
pub mod TreeLemmas
