pub mod Conversion
pub mod Convert
pub mod Leaves
pub mod Listing
pub mod Source
