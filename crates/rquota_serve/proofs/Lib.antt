pub mod AddingLemmas
pub mod ExportLemmas
pub mod NumberLemmas
pub mod ReplyLemmas
pub mod ServingLemmas
pub mod LookingLemmas
pub mod XidLemmas
