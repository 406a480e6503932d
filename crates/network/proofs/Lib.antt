pub mod EventsLemmas
