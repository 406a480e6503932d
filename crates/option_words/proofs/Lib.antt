pub mod ItemLemmas
pub mod KeepLemmas
pub mod LetterLemmas
pub mod TableLemmas
