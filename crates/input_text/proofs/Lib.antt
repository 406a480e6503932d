pub mod InputLemmas
pub mod InputLinesLemmas
pub mod LinesLemmas
pub mod NumeralLemmas
pub mod WordsLemmas
