pub mod Line
pub mod Outcome
pub mod Piece
pub mod Refusals
pub mod Said
pub mod Status
