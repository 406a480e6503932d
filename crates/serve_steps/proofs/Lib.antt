pub mod ExportingLemmas
pub mod NamedLemmas
