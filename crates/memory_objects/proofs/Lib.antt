pub mod NameSetLemmas
pub mod NamedFilesLemmas
pub mod TakenLemmas
