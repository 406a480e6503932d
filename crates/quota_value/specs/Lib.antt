pub mod Listed
pub mod NextRecord
pub mod QuotaValue
