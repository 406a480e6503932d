pub mod InputLaws
pub mod InputLeft
pub mod InputLines
pub mod LineReading
pub mod Lines
pub mod Numeral
pub mod StoreInput
pub mod Words
