pub mod Apply
pub mod EditWords
pub mod Edits
pub mod EditsInPart
pub mod Made
pub mod Print
