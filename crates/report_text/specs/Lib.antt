pub mod Period
pub mod Fault
pub mod Report
