pub mod Help
pub mod QuotaFiles
pub mod Sharing
