pub mod Connections
pub mod Events
