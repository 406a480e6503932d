pub mod HalfLemmas
pub mod NamesLemmas
pub mod ToldLemmas
