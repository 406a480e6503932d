pub mod CallLemmas
pub mod ExchangeLemmas
pub mod LineLemmas
pub mod OutcomeLemmas
pub mod OwnLemmas
pub mod PathLemmas
pub mod WordLemmas
