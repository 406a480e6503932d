pub mod ByBlockLemmas
pub mod CheckedLemmas
pub mod DataLemmas
pub mod FoundLemmas
pub mod GroupLemmas
pub mod ReadLemmas
pub mod RoleLemmas
