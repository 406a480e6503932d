pub mod ByteRanges
pub mod Keeps
pub mod Recovered
pub mod Recovery
pub mod Settled
pub mod Undo
pub mod UndoName
pub mod UndoSaves
