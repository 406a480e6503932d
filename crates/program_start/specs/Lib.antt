pub mod Asked
pub mod Reason
pub mod Starting
