pub mod MissingLemmas
