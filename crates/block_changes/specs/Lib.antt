pub mod EntryChanges
