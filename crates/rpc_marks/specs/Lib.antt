pub mod Marked
pub mod Marker
pub mod Records
