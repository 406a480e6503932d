pub mod ConvertLemmas
pub mod ListingLemmas
pub mod SourceLemmas
pub mod ValueLemmas
