pub mod Block
pub mod BlockSet
pub mod CheckFault
