pub mod Check
pub mod EntryList
pub mod Found
pub mod Groups
pub mod Reads
