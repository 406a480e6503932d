pub mod Fault
pub mod FirstMatch
pub mod Index
pub mod NamesFile
