pub mod GroupLemmas
pub mod PieceLemmas
