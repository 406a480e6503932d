pub mod Exporting
pub mod ServeCauses
