pub mod Serve
pub mod Words
