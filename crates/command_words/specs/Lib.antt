pub mod Asked
pub mod Modes
pub mod Usage
