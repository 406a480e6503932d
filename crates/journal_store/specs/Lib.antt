pub mod Calls
pub mod Commits
pub mod JournalStore
pub mod Kinds
pub mod Overlap
pub mod Replaced
pub mod Told
