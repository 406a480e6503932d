pub mod Beginnings
pub mod Build
pub mod Needed
pub mod NewFile
pub mod Size
