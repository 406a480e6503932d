pub mod EditStep
pub mod Fits
