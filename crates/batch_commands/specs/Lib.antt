pub mod AtOnce
pub mod Batch
pub mod BatchReading
pub mod FullForLines
pub mod LinesCommitted
pub mod Together
