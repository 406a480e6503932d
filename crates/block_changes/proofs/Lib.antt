pub mod ClearedLemmas
pub mod EntryWrittenLemmas
pub mod KeptLemmas
pub mod OneBlockLemmas
pub mod OneLeafLemmas
pub mod OverwrittenLemmas
pub mod UnlinkedLemmas
