pub mod OneFile
pub mod Capacity
