pub mod DiskLaws
pub mod DiskSeen
pub mod DiskCalls
