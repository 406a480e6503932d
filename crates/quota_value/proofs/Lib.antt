pub mod EntriesLemmas
pub mod ListedLemmas
