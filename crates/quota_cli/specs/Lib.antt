pub mod Carrying
pub mod Headline
pub mod Script
