pub mod FirstLemmas
pub mod IdLemmas
pub mod LineLemmas
pub mod NameListLemmas
pub mod PartsLemmas
pub mod ReadLemmas
pub mod RowLemmas
